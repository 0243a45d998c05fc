-- The rows of both phases: a fold is begun, and the two lanes of device calls.
use Rattle.std.specs.Prelude.{◌≡◌, ℕ, ◌+◌, ◌<◌, ◌^◌, Bool, true, false, nat_le, is_some, List, [], ◌∷◌, length, Option, Some, None}
use Rattle.std.specs.Option.{option_map}
use Rattle.disk_core.specs.State.{IsImage, now}
use Rattle.disk_core.specs.declared.fault.DiskFault.{DiskFault}
use Rattle.segment_core.specs.Frame.{Frame, Fold}
use Rattle.pen_core.specs.PenOf.{JobOf, FoldOf, HomeWrite}
use Rattle.pen_core.specs.Step.{step_after, fault_of}
use Rattle.pen_core.specs.InHand.{has_call, called, home_fault}
use Rattle.pen_core.specs.Pen.{OpensWith, fold_behind, gate_behind_fold}
use Rattle.pen_core.specs.Folds.{IsWholeFold}
use Rattle.pen_core.specs.declared.step.PenStep as pen_step
use Rattle.pen_core.specs.declared.step.PenStep.TheVariants.{Body}
use Rattle.pen_core.specs.declared.stage.FoldStage.TheVariants as stages
use Rattle.flush_core.specs.declared.lane.Lane.{Lane}
use Rattle.flush_core.specs.declared.lane.Lane.TheVariants as lanes
use Rattle.flush_core.specs.declared.lane.Tick.TheVariants as ticks
use Rattle.pen_core.specs.declared.fault.PenFault.TheVariants as pen_fault
use Rattle.drive_core.specs.declared.fault.StepFault.TheVariants.{Vault}
use Rattle.vault_core.specs.declared.fault.VaultFault.TheVariants as vault
use Rattle.drive_core.specs.Line.{Line, When, Might, is_vault_memory, is_disk}
use Rattle.drive_core.specs.Step.{Step, Answer}
use Rattle.drive_core.specs.Step as step
use Rattle.drive_core.specs.World.{World, Hand, as_pen, is_live, file_with, growths_in}
use Rattle.drive_core.specs.Outcome.{Outcome, elsewhere, RefusedAt}

abbrev pub fold_lines : Hand → Bool → List Line
fold_lines hand true =
    When hand.broken (Vault (vault.Pen pen_fault.Broken))
    ∷ When (is_some hand.fold) (Vault (vault.Pen pen_fault.Busy))
    ∷ When (nat_le (2 ^ 48) (gate_behind_fold (as_pen hand 0))) (Vault (vault.Pen pen_fault.FileFull))
    ∷ Might is_vault_memory
    ∷ []
fold_lines hand false = When hand.broken (Vault (vault.Pen pen_fault.Broken)) ∷ When (is_some hand.fold) (Vault (vault.Pen pen_fault.Busy)) ∷ []

abbrev pub device_lines : Hand → Bool → List Line
device_lines hand true = When hand.broken (Vault (vault.Pen pen_fault.Broken)) ∷ Might is_disk ∷ []
device_lines hand false = When hand.broken (Vault (vault.Pen pen_fault.Broken)) ∷ []

abbrev pub home_calls : Option FoldOf → Bool
home_calls None = false
home_calls (Some fold) = has_call fold.stage

-- the step that makes a lane's next call
abbrev pub lane_step : {R : Type 0} → Lane → Step R
lane_step lanes.Log = step.Log
lane_step lanes.Home = step.Home

-- how the device call that is due fails, if it does
abbrev pub log_fault_due : Hand → Option DiskFault
log_fault_due hand = option_map (λ job. fault_of job.step) hand.job

abbrev pub home_due : Hand → Option DiskFault
home_due hand = option_map (λ fold. home_fault fold.stage) hand.fold

module _ {R : Type 0} where
  -- the fold in hand is this one
  abbrev pub folding : World R → FoldOf → World R
  folding w fold = record w { hand = record w.hand { fold = Some fold } }

  -- The writes fold all live changes of the file: of the frames and the vector to which each image of now opens, but for the
  -- job in hand.
  pub record FoldsFile (w : World R) (left : List HomeWrite) : Type 0 where
    pub frames : List Frame
    pub vector : List (List ℕ)
    pub opens : (image : List ℕ) → IsImage (now w.disk.states) image → OpensWith w.hand.file.shape frames vector w.hand.job image
    pub whole : IsWholeFold w.hand.file.shape frames vector left

  abbrev pub HasBegun : Type 0 → World R → Bool → World R → Type 0
  HasBegun keeps w true w' =
      (left : List HomeWrite) × (0 < length left) × (keeps → FoldsFile w left)
      × (w' ≡ folding w (record { count = w.hand.file.changes; left = left; stage = stages.Home (length left) }))
  HasBegun keeps w false w' = w' ≡ w

  abbrev pub IsFold : Type 0 → World R → Answer R → World R → Type 0
  IsFold keeps w answer w' = Outcome
      (fold_lines w.hand (is_live w.hand.file)) answer
      ((answer ≡ step.Begun (is_live w.hand.file)) × HasBegun keeps w (is_live w.hand.file) w')
      (λ fault. w' ≡ w)

  abbrev pub broken_by : World R → World R
  broken_by w = record w { hand = record w.hand { broken = true } }

  -- the job is done: its growths are settled, or its fold is over
  abbrev pub done : World R → Frame → World R
  done w frame = record w {
    settled = w.settled + growths_in frame;
    hand = record w.hand { file = file_with w.hand.file frame; job = None; fold = fold_behind frame w.hand.fold };
  }

  abbrev pub IsLogged : World R → JobOf → Option pen_step.PenStep → Answer R → World R → Type 0
  IsLogged w job None answer w' = (answer ≡ step.Ticked ticks.Done) × (w' ≡ elsewhere (done w job.frame) w')
  IsLogged w job (Some next) answer w' = (answer ≡ step.Ticked ticks.Step) × (w' ≡ elsewhere (record w { hand = record w.hand { job = Some (record job { step = next }) } }) w')

  abbrev pub IsJobLogged : World R → Option JobOf → Answer R → World R → Type 0
  IsJobLogged w None answer w' = (answer ≡ step.Ticked ticks.Idle) × (w' ≡ w)
  IsJobLogged w (Some job) answer w' = IsLogged w job (step_after job.step) answer w'

  abbrev pub IsLog : World R → Answer R → World R → Type 0
  IsLog w answer w' = Outcome (device_lines w.hand (is_some w.hand.job)) answer (IsJobLogged w w.hand.job answer w') (RefusedAt w (log_fault_due w.hand) (broken_by w) w')

  abbrev pub IsFiled : World R → FoldOf → Option JobOf → Answer R → World R → Type 0
  IsFiled w fold None answer w' =
      (answer ≡ step.Ticked ticks.Filed)
      × (w' ≡ record w { hand = record w.hand { fold = Some (record fold { stage = stages.Filed }); job = Some (record { frame = Fold fold.count; step = Body }) } })
  IsFiled w fold (Some job) answer w' = (answer ≡ step.Ticked ticks.Waiting) × (w' ≡ w)

  abbrev pub IsHomed : World R → FoldOf → Bool → Answer R → World R → Type 0
  IsHomed w fold true answer w' = (answer ≡ step.Ticked ticks.Step) × (w' ≡ elsewhere (folding w (called fold)) w')
  IsHomed w fold false answer w' = IsFiled w fold w.hand.job answer w'

  abbrev pub IsFoldHomed : World R → Option FoldOf → Answer R → World R → Type 0
  IsFoldHomed w None answer w' = (answer ≡ step.Ticked ticks.Idle) × (w' ≡ w)
  IsFoldHomed w (Some fold) answer w' = IsHomed w fold (has_call fold.stage) answer w'

  abbrev pub IsHome : World R → Answer R → World R → Type 0
  IsHome w answer w' = Outcome (device_lines w.hand (home_calls w.hand.fold)) answer (IsFoldHomed w w.hand.fold answer w') (RefusedAt w (home_due w.hand) (broken_by w) w')
