-- The work in hand, done to its end.
use Rattle.std.specs.Prelude.{◌≡◌, ◌⊎◌, ℕ, ◌+◌, ◌*◌, ◌<◌, ◌≤◌, max, true, false, List, Option, Some, None, IfSome}
use Rattle.record_core.specs.Bytes.{Encoding}
use Rattle.disk_core.specs.declared.fault.DiskFault.{DiskFault}
use Rattle.disk_core.specs.State.{State}
use Rattle.disk_core.specs.Moments.{LeavesOnly, clock}
use Rattle.segment_core.specs.Frame.{Frame, Group, Change, Shrink, Fold}
use Rattle.segment_core.specs.Tally.{after}
use Rattle.segment_core.specs.declared.tally.Tally.{Tally}
use Rattle.pen_core.specs.declared.stage.FoldStage.{FoldStage}
use Rattle.pen_core.specs.declared.stage.FoldStage.TheVariants as stages
use Rattle.pen_core.specs.declared.fault.PenFault.TheVariants as faults
use Rattle.pen_core.specs.PenOf.{PenOf, JobOf, FoldOf}
use Rattle.pen_core.specs.Vectors.{frames_with}
use Rattle.pen_core.specs.Pen.{log_left, fold_stage}
use Rattle.flush_core.specs.declared.lane.Tick.{Tick}
use Rattle.flush_core.specs.declared.lane.Tick.TheVariants.{Idle, Step, Done, Filed, Waiting}
use Rattle.vault_core.specs.declared.fault.VaultFault.{VaultFault}
use Rattle.vault_core.specs.declared.fault.VaultFault.TheVariants.{Pen, Unsettled, WrongPhase}
use Rattle.vault_core.specs.Vault.{VaultOf, MayHold, list_of}

-- how many ticks a fold takes at most, up to the one that files it
abbrev pub fold_ticks : FoldStage → ℕ
fold_ticks stages.None = 0
fold_ticks (stages.Home n) = n + 3
fold_ticks stages.Sync = 2
fold_ticks stages.Ready = 1
fold_ticks stages.Filed = 0

-- what is left to do: each tick leaves less
abbrev pub work_left : {D : Type 0} → PenOf D → ℕ
work_left pen = log_left pen.job + fold_ticks (fold_stage pen.fold) * 5

-- how many calls of the device a fold in this stage makes at most: its home writes, their sync, and those of its frame
abbrev pub fold_calls : FoldStage → ℕ
fold_calls stages.None = 0
fold_calls (stages.Home n) = max 1 n + 5
fold_calls stages.Sync = 5
fold_calls stages.Ready = 4
fold_calls stages.Filed = 0

-- and with those of the job in hand
abbrev pub calls_left : {D : Type 0} → PenOf D → ℕ
calls_left pen = log_left pen.job + fold_calls (fold_stage pen.fold)

-- what a tick of the log, or, with no job in hand, of the homes makes of it
abbrev pub LessensWork : {D : Type 0} → PenOf D → PenOf D → Tick → Type 0
LessensWork old new Idle = (old.job ≡ None) × (old.fold ≡ None) × (new ≡ old)
LessensWork old new Step = work_left new < work_left old
LessensWork old new Done = work_left new < work_left old
LessensWork old new Filed = work_left new < work_left old
LessensWork old new Waiting = work_left new < work_left old

-- nothing is in hand
abbrev pub IsIdle : {D : Type 0} → PenOf D → Type 0
IsIdle pen = (pen.job ≡ None) × (pen.fold ≡ None)

-- ---- the file then

-- what a frame more makes of the file, and so of what it counts: that of a fold comes on top, where it isn't the job yet
module _ {X : Type 0} (more : X → Frame → X) where
  abbrev pub with_stage : FoldStage → ℕ → X → X
  with_stage stages.None count file = file
  with_stage (stages.Home n) count file = more file (Fold count)
  with_stage stages.Sync count file = more file (Fold count)
  with_stage stages.Ready count file = more file (Fold count)
  with_stage stages.Filed count file = file

  abbrev pub with_fold : Option FoldOf → X → X
  with_fold None file = file
  with_fold (Some fold) file = with_stage fold.stage fold.count file

  abbrev pub with_job : Option JobOf → X → X
  with_job None file = file
  with_job (Some job) file = more file job.frame

-- what the file counts once all that is in hand stands in it: the frame of the job, and behind it that of the fold
abbrev pub tally_then : {D : Type 0} → PenOf D → Tally
tally_then pen = with_fold after pen.fold (with_job after pen.job pen.tally)

-- and its frames then, but for their home bytes
abbrev pub frames_then : {D : Type 0} → PenOf D → List Frame
frames_then pen = with_fold frames_with pen.fold (with_job frames_with pen.job pen.frames)

-- the frame of a fold is the job only once the fold in hand is filed
abbrev pub IsFiledBy : Frame → Option FoldOf → Type 0
IsFiledBy (Group lengths bytes) fold = Unit {0}
IsFiledBy (Change runs bytes) fold = Unit {0}
IsFiledBy (Shrink n) fold = Unit {0}
IsFiledBy (Fold count) fold = IfSome fold (λ f. f.stage ≡ stages.Filed)

abbrev pub IsOrderly : {D : Type 0} → PenOf D → Type 0
IsOrderly pen = IfSome pen.job (λ job. IsFiledBy job.frame pen.fold)

-- a stretch of ticks: the file is of the same shape, and what is in hand ends in it, each frame once
pub record CarriesOn {D : Type 0} (keeps : Type 0) (old new : PenOf D) : Type 0 where
  pub shape_same : new.shape ≡ old.shape
  pub orderly : IsOrderly old → IsOrderly new
  pub tally_same : IsOrderly old → tally_then new ≡ tally_then old
  pub frames_same : keeps → IsOrderly old → frames_then new ≡ frames_then old

-- all that was in hand stands in the file, and nothing else is new there
pub record StandsInFile {D : Type 0} (keeps : Type 0) (old new : PenOf D) : Type 0 where
  pub shape_same : new.shape ≡ old.shape
  pub tally_is : IsOrderly old → new.tally ≡ tally_then old
  pub frames_are : keeps → IsOrderly old → new.frames ≡ frames_then old

-- why it isn't done: the pen was broken, and nothing has changed; or a call of the disk failed
abbrev pub IsSettleFault : {D : Type 0} → PenOf D → PenOf D → VaultFault → Type 0
IsSettleFault old new (Pen fault) =
    ((fault ≡ faults.Broken) × (old.broken ≡ true) × (new ≡ old))
    ⊎ ((cause : DiskFault) × (fault ≡ faults.Disk cause) × (old.broken ≡ false) × (new.broken ≡ true))
IsSettleFault old new (Unsettled number) = ⊥
IsSettleFault old new WrongPhase = ⊥

-- a stretch of ticks, none of which failed
pub record HasTicked {R D : Type 0} (form : Encoding R) (keeps : D → Type 0) (states : D → List State) (faults : D → ℕ) (old new : VaultOf R D) : Type 0 where
  pub images : keeps new.pen.disk → LeavesOnly (states old.pen.disk) (states new.pen.disk) (MayHold form old)
  pub carries : CarriesOn (keeps new.pen.disk) old.pen new.pen
  pub blocks_same : new.blocks ≡ old.blocks
  pub sure : keeps new.pen.disk → new.sure ≡ list_of new
  pub whole : (old.pen.broken ≡ false) × (new.pen.broken ≡ false)
  pub time : clock (states new.pen.disk) + calls_left new.pen ≤ clock (states old.pen.disk) + calls_left old.pen
  pub no_fault : faults new.pen.disk ≡ faults old.pen.disk
  pub model : keeps new.pen.disk → keeps old.pen.disk
  pub goes_on : keeps old.pen.disk → keeps new.pen.disk
