-- The disks that a proof is about.
use Rattle.std.proofs.Common.{ℕ, List}
use Rattle.disk_core.specs.State.{State}

-- What contracts see of a kind of disks: whether one keeps the model, its states, and how many of its calls have failed.
pub record Device (D : Type 0) : Type 1 where
  pub keeps : D → Type 0
  pub states : D → List State
  pub faults : D → ℕ

abbrev pub device_of : {D : Type 0} → (D → Type 0) → (D → List State) → (D → ℕ) → Device D
device_of keeps states faults = record { keeps = keeps; states = states; faults = faults }
