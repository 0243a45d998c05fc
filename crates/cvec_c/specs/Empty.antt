-- A file that is made: why it is refused, and what its bytes make of an image.
use Rattle.std.specs.Prelude.{◌≡◌, ◌≢◌, ℕ, Bool, List, [], ◌∷◌, slice_index, Some, nat_lt, not}
use Rattle.record_core.specs.Bytes.{Encoding}
use Rattle.segment_core.specs.declared.fault.ScanFault.TheVariants as faults
use Rattle.segment_core.specs.Fault.{is_version, header_fault}
use Rattle.segment_core.specs.Found.{StandsAt}
use Rattle.c_core.specs.declared.refusal.Refusal.{Refusal}
use Rattle.c_core.specs.declared.refusal.Refusal.TheVariants.{Version, NoRoom}
use Rattle.cvec_c.specs.declared.stat.CvecStat.{CvecStat}
use Rattle.cvec_c.specs.Stat.{HasStat}

-- a version that isn't known, and fewer bytes than an empty file has
abbrev pub empty_lines : ℕ → ℕ → List (Bool × Refusal)
empty_lines version room = (not (is_version version), Version) ∷ (nat_lt room 12, NoRoom) ∷ []

-- These bytes at place 0 are an empty file of records of this form. Whatever a crash leaves while they are written behind their first byte, and
-- after that in its place, is one of the two: no file, or the empty one.
pub record Creates (bytes : List ℕ) (stat : CvecStat) (R : Type 0) (form : Encoding R) : Type 0 where
  -- while the first byte isn't open there is no file
  pub before : (other : List ℕ) → slice_index other 0 ≢ 1 → header_fault form.width other ≡ Some faults.Unborn
  -- with the bytes there it has no record, whatever stands behind them
  pub after : (other : List ℕ) → StandsAt other 0 bytes → HasStat form other [] stat
