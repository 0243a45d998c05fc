-- How a run's records are written, and what is said of its disk.
use Rattle.std.specs.Prelude.{ℕ, List}
use Rattle.record_core.specs.Bytes.{Encoding}
use Rattle.disk_core.specs.State.{State}

-- The form of the records; what a disk may leave, how many of its calls have failed, and whether it keeps its model.
pub record Medium (R D : Type 0) : Type 1 where
  pub form : Encoding R
  pub states : D → List State
  pub faults : D → ℕ
  pub keeps : D → Type 0

abbrev pub medium : {R D : Type 0} → Encoding R → (D → List State) → (D → ℕ) → (D → Type 0) → Medium R D
medium form states faults keeps = record { form = form; states = states; faults = faults; keeps = keeps }
