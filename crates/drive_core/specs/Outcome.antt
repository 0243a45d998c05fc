-- How a step ends: it is accepted, or refused as its table allows.
use Rattle.std.specs.Prelude.{◌≡◌, ◌⊎◌, ℕ, ◌<◌, List, Option, Some, None}
use Rattle.disk_core.specs.declared.fault.DiskFault.{DiskFault}
use Rattle.pen_core.specs.declared.fault.PenFault.TheVariants as pen_fault
use Rattle.drive_core.specs.declared.fault.StepFault.{StepFault}
use Rattle.drive_core.specs.declared.fault.StepFault.TheVariants.{Vault, Grow as InGrow, Scan}
use Rattle.vault_core.specs.declared.fault.VaultFault.TheVariants as vault
use Rattle.drive_core.specs.Line.{Line, Allows, stray_of}
use Rattle.drive_core.specs.Step.{Step, Answer}
use Rattle.drive_core.specs.Step as step
use Rattle.drive_core.specs.World.{World}

-- The step is accepted, or refused as one of the lines allows.
abbrev pub Outcome : {R : Type 0} → List Line → Answer R → Type 0 → (StepFault → Type 0) → Type 0
Outcome lines answer Accepted RefusedBy =
    (Allows lines None × Accepted) ⊎ ((fault : StepFault) × Allows lines (Some fault) × (answer ≡ step.Refused fault) × RefusedBy fault)

-- a device call failed, and was counted
abbrev pub HasFailedCall : {R : Type 0} → World R → World R → Type 0
HasFailedCall old new = old.disk.faults < new.disk.faults

-- the growth that strayed, where the answer tells one
abbrev pub stray_in : {R : Type 0} → Answer R → Option ℕ
stray_in (step.Refused fault) = stray_of fault
stray_in other = None

abbrev pub struck : {R : Type 0} → World R → StepFault → World R
struck w fault = record w { strayed = stray_of fault }

module _ {R : Type 0} where
  -- the disk alone may be another
  abbrev pub elsewhere : World R → World R → World R
  elsewhere w w' = record w { disk = w'.disk }

  -- what the failure of the device call that is due leaves, by its kind, and any other refusal
  abbrev pub RefusedAt : World R → Option DiskFault → World R → World R → StepFault → Type 0
  RefusedAt w due failed w' (Vault (vault.Pen (pen_fault.Disk fault))) = (due ≡ Some fault) × HasFailedCall w w' × (w' ≡ elsewhere failed w')
  RefusedAt w due failed w' (Vault other) = w' ≡ w
  RefusedAt w due failed w' (InGrow fault) = w' ≡ w
  RefusedAt w due failed w' (Scan fault) = w' ≡ w
