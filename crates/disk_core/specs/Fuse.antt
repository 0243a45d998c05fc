-- Which calls a fuse lets pass.
use Rattle.std.specs.Prelude.{ℕ, zero, suc, ◌≡◌, ◌+◌, List, Result, IsErr}
use Rattle.disk_core.specs.declared.fault.DiskFault.{DiskFault}
use Rattle.disk_core.specs.declared.blow.Blow.TheVariants.{Stop, FailOnce}
use Rattle.disk_core.specs.declared.blow.Fuse.{Fuse}
use Rattle.disk_core.specs.declared.blow.Fuse.TheVariants.{Whole, Stopped, Spent}
use Rattle.disk_core.specs.declared.blow.Fate.{Fate}
use Rattle.disk_core.specs.declared.blow.Fate.TheVariants.{Passes, Fails, Breaks}
use Rattle.disk_core.specs.State.{State}
use Rattle.disk_core.specs.Calls.{Writes}
use Rattle.disk_core.specs.Fault.{IsCounted}
use Rattle.disk_core.specs.Moments.{clock}

-- what becomes of the next call
abbrev pub fate_of : Fuse → Fate
fate_of (Whole zero Stop) = Fails
fate_of (Whole zero (FailOnce arriving)) = Breaks arriving
fate_of (Whole (suc left) blow) = Passes
fate_of Stopped = Fails
fate_of Spent = Passes

-- the fuse after it
abbrev pub burnt : Fuse → Fuse
burnt (Whole zero Stop) = Stopped
burnt (Whole zero (FailOnce arriving)) = Spent
burnt (Whole (suc left) blow) = Whole left blow
burnt Stopped = Stopped
burnt Spent = Spent

abbrev pub MatchFate : Fate → Type 0 → Type 0 → (ℕ → Type 0) → Type 0
MatchFate Passes passed failed broken = passed
MatchFate Fails passed failed broken = failed
MatchFate (Breaks arriving) passed failed broken = broken arriving

-- the call reached the disk below, and fails where that one has failed, and there alone
pub record HasPassed {D T : Type 0} (states : D → List State) (faults : D → ℕ) (kind : DiskFault) (old new : D) (result : Result T DiskFault) : Type 0 where
  pub time : clock (states new) ≡ clock (states old) + 1
  pub cause : IsCounted kind (faults old) (faults new) result

-- the call failed, and nothing of it reached the disk below
pub record HasFailed {D T : Type 0} (old new : D) (result : Result T DiskFault) : Type 0 where
  pub failed : IsErr result
  pub unreached : new ≡ old

-- the call failed, and these bytes reached the disk below, where that one has not failed
pub record HasBroken {D T : Type 0} (states : D → List State) (faults : D → ℕ) (keeps : D → Type 0) (at : ℕ) (bytes : List ℕ) (old new : D) (result : Result T DiskFault) : Type 0 where
  pub failed : IsErr result
  pub time : clock (states new) ≡ clock (states old) + 1
  pub arrived : keeps old → faults new ≡ faults old → Writes at bytes (states old) (states new)
