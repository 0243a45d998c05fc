-- The values of positions as the bytes that a fold writes.
use Rattle.std.specs.Prelude.{◌≡◌, ℕ, ◌≤◌, List, length, map, take, drop}
use Rattle.std.specs.List.{flat_map}
use Rattle.record_core.specs.Bytes.{Encoding}
use Rattle.segment_core.specs.declared.found.Home.{Home}
use Rattle.segment_core.specs.Written.{joined}
use Rattle.pen_core.specs.PenOf.{HomeWrite}
use Rattle.pen_core.specs.declared.values.Passed.{Passed}

-- so many pieces are behind, which have so many records
pub record IsPassed {R : Type 0} (pieces : List (List R)) (passed : Passed) : Type 0 where
  pub inside : passed.pieces ≤ length pieces
  pub records_are : passed.records ≡ length (joined (take passed.pieces pieces))

-- the bytes of the records at these positions
abbrev pub bytes_at : {R : Type 0} → Encoding R → List R → ℕ → ℕ → List ℕ
bytes_at form records from count = flat_map form.bytes_of (take count (drop from records))

-- the write that puts the records of these positions into their home bytes
abbrev pub write_for : {R : Type 0} → Encoding R → List R → Home → HomeWrite
write_for form records run = record { place = run.place; bytes = bytes_at form records run.position run.count }

-- the writes of these runs, in order
abbrev pub writes_for : {R : Type 0} → Encoding R → List R → List Home → List HomeWrite
writes_for form records runs = map (write_for form records) runs
