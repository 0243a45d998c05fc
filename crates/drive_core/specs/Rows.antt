-- One step of a run: which row it has.
use Rattle.std.specs.Prelude.{◌≡◌, ℕ, Bool, true, false, nat_lt, length, Option, Some, None}
use Rattle.record_core.specs.Bytes.{Encoding}
use Rattle.book_core.specs.declared.fault.GrowFault.TheVariants as grow
use Rattle.drive_core.specs.declared.fault.StepFault.TheVariants.{Vault, Grow as InGrow}
use Rattle.vault_core.specs.declared.fault.VaultFault.TheVariants as vault
use Rattle.drive_core.specs.Step.{Step, Answer}
use Rattle.drive_core.specs.Step as step
use Rattle.drive_core.specs.World.{World, GrowthPhase, DrivePhase, Shut, Exclusive, Growing, vector, changed, resize_command, cleared}
use Rattle.drive_core.specs.GrowthRows.{IsPut, IsLook, IsView, IsMarkRead, IsTake, IsRaise, IsClose, IsGather}
use Rattle.drive_core.specs.ExclusiveRows.{IsShare, IsCommandStep, IsChanges, IsListing}
use Rattle.drive_core.specs.LaneRows.{IsFold, IsLog, IsHome}
use Rattle.drive_core.specs.OpeningRows.{IsCreate, IsOpen}

abbrev pub has_seat : GrowthPhase → Option ℕ → Bool
has_seat phase None = true
has_seat phase (Some seat) = nat_lt seat (length phase.known)

module _ {R : Type 0} where
  -- it doesn't fit the phase, or names no seat
  abbrev pub IsMisplaced : World R → Answer R → World R → Type 0
  IsMisplaced w answer w' = (answer ≡ step.Refused (Vault vault.WrongPhase)) × (w' ≡ w)

  abbrev pub OfSeat : World R → Answer R → World R → Bool → Type 0 → Type 0
  OfSeat w answer w' true Row = Row
  OfSeat w answer w' false Row = IsMisplaced w answer w'

module _ {R : Type 0} (form : Encoding R) where
  abbrev pub ShutRow : Type 0 → World R → Step R → Answer R → World R → Type 0
  ShutRow keeps w (step.Create format) answer w' = IsCreate form keeps w format answer w'
  ShutRow keeps w step.Open answer w' = IsOpen form keeps w answer w'
  ShutRow keeps w other answer w' = IsMisplaced w answer w'

  abbrev pub ExclusiveRow : Type 0 → World R → Step R → Answer R → World R → Type 0
  ExclusiveRow keeps w (step.Share room seats) answer w' = IsShare w room seats answer w'
  ExclusiveRow keeps w (step.Change start records) answer w' = IsCommandStep form w (changed start records) answer w'
  ExclusiveRow keeps w (step.Changes pieces) answer w' = IsChanges form w pieces answer w'
  ExclusiveRow keeps w (step.Resize n r) answer w' = IsCommandStep form w (resize_command (length (vector w)) n r) answer w'
  ExclusiveRow keeps w step.Clear answer w' = IsCommandStep form w (cleared (length (vector w))) answer w'
  ExclusiveRow keeps w step.Listing answer w' = IsListing w answer w'
  ExclusiveRow keeps w step.Fold answer w' = IsFold keeps w answer w'
  ExclusiveRow keeps w step.Log answer w' = IsLog w answer w'
  ExclusiveRow keeps w step.Home answer w' = IsHome w answer w'
  ExclusiveRow keeps w other answer w' = IsMisplaced w answer w'

  abbrev pub GrowthRow : Type 0 → World R → GrowthPhase → Step R → Answer R → World R → Type 0
  GrowthRow keeps w phase (step.Put seat records) answer w' = OfSeat w answer w' (has_seat phase (Some seat)) (IsPut form.width w phase seat records answer w')
  GrowthRow keeps w phase (step.Look pass) answer w' = OfSeat w answer w' (has_seat phase pass) (IsLook w phase pass answer w')
  GrowthRow keeps w phase (step.View seat) answer w' = OfSeat w answer w' (has_seat phase (Some seat)) (IsView w phase seat answer w')
  GrowthRow keeps w phase (step.Settled seat) answer w' = OfSeat w answer w' (has_seat phase (Some seat)) (IsMarkRead w phase seat answer w')
  GrowthRow keeps w phase step.Take answer w' = IsTake form w phase answer w'
  GrowthRow keeps w phase step.Raise answer w' = IsRaise w phase answer w'
  GrowthRow keeps w phase step.Close answer w' = IsClose w phase answer w'
  GrowthRow keeps w phase step.Gather answer w' = IsGather w phase answer w'
  GrowthRow keeps w phase step.Fold answer w' = IsFold keeps w answer w'
  GrowthRow keeps w phase step.Log answer w' = IsLog w answer w'
  GrowthRow keeps w phase step.Home answer w' = IsHome w answer w'
  GrowthRow keeps w phase other answer w' = IsMisplaced w answer w'

  abbrev pub PhaseRow : Type 0 → World R → DrivePhase → Step R → Answer R → World R → Type 0
  PhaseRow keeps w Shut asked answer w' = ShutRow keeps w asked answer w'
  PhaseRow keeps w Exclusive asked answer w' = ExclusiveRow keeps w asked answer w'
  PhaseRow keeps w (Growing phase) asked answer w' = GrowthRow keeps w phase asked answer w'

  -- after a stray growth that answer is given again
  abbrev pub StrayRow : Type 0 → World R → Option ℕ → Step R → Answer R → World R → Type 0
  StrayRow keeps w None asked answer w' = PhaseRow keeps w w.phase asked answer w'
  StrayRow keeps w (Some n) asked answer w' = (answer ≡ step.Refused (InGrow (grow.Strayed n))) × (w' ≡ w)

  abbrev pub IsStep : Type 0 → World R → Step R → Answer R → World R → Type 0
  IsStep keeps w asked answer w' = StrayRow keeps w w.strayed asked answer w'
