-- What is refused of a file by its frames is refused of it for records of any type, and where any bytes are a record, its bytes
-- are records.
use Rattle.std.proofs.Common.{◌≡◌, ℕ, zero, suc, inl, inr, List, [], ◌∷◌, Option, Some, None, refl, ap}
use Rattle.std.specs.Prelude.{slice_get, IsSome, MatchOption}
use Rattle.std.specs.Option.{option_and_then}
use Rattle.record_core.specs.Bytes.{Encoding}
use Rattle.segment_core.specs.declared.fault.ScanFault.{ScanFault}
use Rattle.segment_core.specs.declared.format.Format.{Format}
use Rattle.segment_core.specs.Shape.{shape_of, format_in}
use Rattle.segment_core.specs.Frame.{Frame}
use Rattle.segment_core.specs.Tally.{AreLegal}
use Rattle.segment_core.specs.Fault.{header_fault, IsBadRecord, IsFrameFault, IsRefused}
use Rattle.segment_core.specs.Vector.{record_in, HasVector}
use Rattle.segment_core.specs.Raw.{raw, AreReadAs}
use Rattle.segment_core.proofs.Raw.{IsVectorOf_typed}
use Rattle.segment_core.proofs.RawVector.{has_place}

module _ {R : Type 0} (form : Encoding R) where
  -- no bytes are bad as bytes
  no_bad_cell : (format : Format) (image : List ℕ) (frames : List Frame) (fault : ScanFault) → AreLegal (shape_of format form) frames
      → IsBadRecord format (raw form.width) image frames fault → ⊥
  no_bad_cell format image frames fault legal bad =
      let at = has_place (shape_of format form) frames bad.0 legal bad.2.inside in
      let some = ap (option_and_then (record_in (raw form.width) image)) at.1 in
      let none = bad.2.bad in
      absurd cc

  ends_typed : (format : Format) (image : List ℕ) (frames : List Frame) (fault : ScanFault) (found : Option ScanFault) → AreLegal (shape_of format form) frames
      → MatchOption found (IsBadRecord format (raw form.width) image frames fault) (λ first. fault ≡ first)
      → MatchOption found (IsBadRecord format form image frames fault) (λ first. fault ≡ first)
  ends_typed format image frames fault None legal bad = absurd (no_bad_cell format image frames fault legal bad)
  ends_typed format image frames fault (Some first) legal same = same

  frames_typed : (format : Format) (image : List ℕ) (fault : ScanFault) → IsFrameFault format (raw form.width) image fault → IsFrameFault format form image fault
  frames_typed format image fault found = (found.0, found.1, ends_typed format image found.0 fault _ found.1.begins.legal found.2)

  first_typed : (image : List ℕ) (fault : ScanFault) (header : Option ScanFault) → MatchOption header (IsFrameFault (format_in image) (raw form.width) image fault) (λ first. fault ≡ first)
      → MatchOption header (IsFrameFault (format_in image) form image fault) (λ first. fault ≡ first)
  first_typed image fault None found = frames_typed (format_in image) image fault found
  first_typed image fault (Some first) same = same

  pub refused_typed : (image : List ℕ) (fault : ScanFault) → IsRefused (raw form.width) image fault → IsRefused form image fault
  refused_typed image fault refused = elim refused [
    | inl found ↦ inl (first_typed image fault (header_fault form.width image) found)
    | inr memory ↦ inr memory
  ]

  -- ---- where any bytes are a record

  some_of : (o : Option R) → IsSome o → (r : R) × (o ≡ Some r)
  some_of None some = absurd cc
  some_of (Some r) some = (r, refl)

  decoded : ((bytes : List ℕ) → IsSome (form.value_of bytes)) → (cells : List (List ℕ)) → (records : List R) × AreReadAs form cells records
  decoded total [] = ([], record { size = refl; each = λ i. refl })
  decoded total (cell ∷ cells) =
      let first = some_of (form.value_of cell) (total cell) in
      let rest = decoded total cells in
      (first.0 ∷ rest.0, record { size = ap suc rest.1.size; each = each first.0 first.1 rest.0 rest.1 })
    where
      each : (r : R) → form.value_of cell ≡ Some r → (records : List R) → AreReadAs form cells records
          → (i : ℕ) → option_and_then form.value_of (slice_get (cell ∷ cells) i) ≡ slice_get (r ∷ records) i
      each r is records are zero = is
      each r is records are (suc i) = are.each i

  pub vector_typed : ((bytes : List ℕ) → IsSome (form.value_of bytes)) → (format : Format) (image : List ℕ) (frames : List Frame) (cells : List (List ℕ))
      → HasVector format (raw form.width) image frames cells → (records : List R) × HasVector format form image frames records × AreReadAs form cells records
  vector_typed total format image frames cells has =
      let told = decoded total cells in
      (told.0, record { framed = has.framed; read = IsVectorOf_typed format form image frames cells told.0 has.read told.1 }, told.1)
