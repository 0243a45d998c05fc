-- What the calls of a pen promise.
use Rattle.std.specs.Prelude.{◌≡◌, ◌⊎◌, ℕ, ◌+◌, ◌<◌, ◌≤◌, ◌^◌, List, [], ◌∷◌, ◌++◌, length, Option, Some, None, Bool, true, false, IfSome, if◌then◌else◌}
use Rattle.std.specs.Option.{is_some, option_map}
use Rattle.disk_core.specs.State.{State, now, IsImage}
use Rattle.disk_core.specs.Choice.{is_pending}
use Rattle.segment_core.specs.declared.format.Shape.{Shape}
use Rattle.segment_core.specs.Frame.{Frame, Group, Change, Shrink, Fold, frame_text}
use Rattle.segment_core.specs.Tally.{after, tally_of}
use Rattle.pen_core.specs.declared.step.PenStep.{PenStep}
use Rattle.pen_core.specs.declared.step.PenStep.TheVariants as steps
use Rattle.pen_core.specs.declared.stage.Ticked.{Ticked}
use Rattle.pen_core.specs.declared.stage.Ticked.TheVariants as ticks
use Rattle.pen_core.specs.declared.stage.HomeTicked.{HomeTicked}
use Rattle.pen_core.specs.declared.stage.HomeTicked.TheVariants as home_ticks
use Rattle.pen_core.specs.declared.stage.Stage.{Stage}
use Rattle.pen_core.specs.declared.stage.FoldStage.{FoldStage}
use Rattle.pen_core.specs.declared.stage.FoldStage.TheVariants as folds
use Rattle.pen_core.specs.declared.fault.PenFault.{PenFault}
use Rattle.pen_core.specs.declared.fault.PenFault.TheVariants as faults
use Rattle.pen_core.specs.Call.{Call, Makes, Fails, count_due}
use Rattle.pen_core.specs.Step.{step_after, steps_left, fault_of, call_at}
use Rattle.pen_core.specs.Held.{Opens, IsBeingFolded, gate_of}
use Rattle.pen_core.specs.Known.{IsBeforeOrAfter}
use Rattle.pen_core.specs.Vectors.{frames_with}
use Rattle.segment_core.specs.Raw.{after_frame}
use Rattle.pen_core.specs.PenOf.{PenOf, JobOf, FoldOf, HomeWrite}
use Rattle.pen_core.specs.InHand.{due, has_call, called, home_fault}

-- ---- what a crash may leave

-- what an image may open to while this job is in hand
abbrev pub OpensWith : Shape → List Frame → List (List ℕ) → Option JobOf → List ℕ → Type 0
OpensWith shape frames vector None image = Opens shape frames vector image
OpensWith shape frames vector (Some job) image =
    IsBeforeOrAfter shape frames (frames_with frames job.frame) vector (after_frame shape.width vector job.frame) image

-- The image opens to the pen's vector, or to that with its job.
abbrev pub MayOpen : {D : Type 0} → PenOf D → List ℕ → Type 0
MayOpen pen image = OpensWith pen.shape pen.frames pen.vector pen.job image

-- The gate may be pending: from its write on, which comes behind the sync of the body.
abbrev pub MayBeOpening : Option JobOf → Type 0
MayBeOpening None = ⊥
MayBeOpening (Some job) = (job.step ≡ steps.Gate) ⊎ (job.step ≡ steps.GateSync)

-- how many changes a fold counts whose homes may be pending: none before it begins, and none behind their sync
abbrev pub open_count : FoldStage → ℕ → ℕ
open_count folds.None count = 0
open_count (folds.Home n) count = count
open_count folds.Sync count = count
open_count folds.Ready count = 0
open_count folds.Filed count = 0

abbrev pub fold_count : Option FoldOf → ℕ
fold_count None = 0
fold_count (Some fold) = open_count fold.stage fold.count

-- What may be pending at place j: past the closed gate; that gate, once the body is synced; a home byte that is
-- being folded.
abbrev pub MayBePending : {D : Type 0} → PenOf D → ℕ → Type 0
MayBePending pen j = (pen.gate < j) ⊎ (((j ≡ pen.gate) × MayBeOpening pen.job) ⊎ IsBeingFolded pen.shape (fold_count pen.fold) pen.frames j)

-- What holds of the disk between two calls, also behind a fault.
pub record IsKept {D : Type 0} (states : List State) (pen : PenOf D) : Type 0 where
  -- whatever a crash leaves now opens to the pen's vector, or to that with its job
  pub images_open : (image : List ℕ) → IsImage (now states) image → MayOpen pen image
  pub pending_is_told : (j : ℕ) → is_pending (now states) j ≡ true → MayBePending pen j
  pub gate_is : pen.gate ≡ gate_of pen.shape pen.frames
  pub tally_is : pen.tally ≡ tally_of pen.frames
  pub size_is : pen.tally.size ≡ length pen.vector

-- ---- ticks

-- what the pen counts itself, and nothing of it has changed but the job
pub record CountsSame {D : Type 0} (old new : PenOf D) : Type 0 where
  pub shape_same : new.shape ≡ old.shape
  pub fold_same : new.fold ≡ old.fold
  pub tally_same : new.tally ≡ old.tally
  pub gate_same : new.gate ≡ old.gate
  pub room_same : new.room ≡ old.room
  pub places_same : new.places ≡ old.places

-- the fold behind a frame that is done: it ends with its own
abbrev pub fold_behind : Frame → Option FoldOf → Option FoldOf
fold_behind (Group lengths bytes) fold = fold
fold_behind (Change runs bytes) fold = fold
fold_behind (Shrink n) fold = fold
fold_behind (Fold count) fold = None

abbrev pub next_job : JobOf → Option JobOf → Type 0
next_job old new = (step : PenStep) × (step_after old.step ≡ Some step) × (new ≡ Some (record { frame = old.frame; step = step }))

-- the last call of the job succeeded: its frame stands in the file
pub record CountsDone {D : Type 0} (frame : Frame) (old new : PenOf D) : Type 0 where
  pub shape_same : new.shape ≡ old.shape
  pub fold_is : new.fold ≡ fold_behind frame old.fold
  pub tally_is : new.tally ≡ after old.tally frame
  pub gate_is : new.gate ≡ old.gate + length (frame_text old.shape.format frame)
  -- the frame of a fold gives back memory
  pub room_same : ((count : ℕ) → frame ≡ Fold count → ⊥) → new.room ≡ old.room
  pub places_same : ((count : ℕ) → frame ≡ Fold count → ⊥) → new.places ≡ old.places
  pub job_done : new.job ≡ None

-- what a tick makes of the counts, whatever the disk
abbrev pub IsTicked : {D : Type 0} → PenOf D → PenOf D → Ticked → Type 0
IsTicked old new ticks.Idle = (old.job ≡ None) × (new ≡ old)
IsTicked old new ticks.Step = (job : JobOf) × (old.job ≡ Some job) × next_job job new.job × CountsSame old new
IsTicked old new ticks.Done = (job : JobOf) × (old.job ≡ Some job) × (job.step ≡ steps.GateSync) × CountsDone job.frame old new

-- and of the file, where the disk keeps the model
pub record FileSame {D : Type 0} (old new : PenOf D) : Type 0 where
  pub frames_same : new.frames ≡ old.frames
  pub vector_same : new.vector ≡ old.vector

pub record FileGains {D : Type 0} (frame : Frame) (old new : PenOf D) : Type 0 where
  pub frames_more : new.frames ≡ frames_with old.frames frame
  pub vector_is : new.vector ≡ after_frame old.shape.width old.vector frame

abbrev pub FileTicked : {D : Type 0} → PenOf D → PenOf D → Ticked → Type 0
FileTicked old new ticks.Idle = FileSame old new
FileTicked old new ticks.Step = FileSame old new
FileTicked old new ticks.Done = IfSome old.job (λ job. FileGains job.frame old new)

-- what is written for a job: its frame, whose gate is open, and the next gate, closed
abbrev pub job_bytes : Shape → JobOf → List ℕ
job_bytes shape job = frame_text shape.format job.frame ++ 0 ∷ []

-- the device call that is due of the log
abbrev pub log_due : {D : Type 0} → PenOf D → Option Call
log_due pen = option_map (λ job. call_at job.step pen.gate (job_bytes pen.shape job)) pen.job

-- what a tick makes of the disk: what the call does that is due; else it makes none
abbrev pub LogTickCalls : {D : Type 0} → PenOf D → Ticked → List State → List State → Type 0
LogTickCalls pen ticks.Idle old new = new ≡ old
LogTickCalls pen ticks.Step old new = IfSome (log_due pen) (λ call. Makes call old new)
LogTickCalls pen ticks.Done old new = IfSome (log_due pen) (λ call. Makes call old new)

-- and what it makes of it where the call fails; a pen that is broken makes none
abbrev pub LogTickFails : {D : Type 0} → Bool → PenOf D → List State → List State → Type 0
LogTickFails true pen old new = new ≡ old
LogTickFails false pen old new = IfSome (log_due pen) (λ call. Fails call old new)

-- a call of the device has failed: the job stands where it stood, and the pen is broken
pub record IsBrokenBy {D : Type 0} (old new : PenOf D) : Type 0 where
  pub broken : new.broken ≡ true
  pub job_same : new.job ≡ old.job
  pub counts_same : CountsSame old new

-- why a tick was refused
abbrev pub IsTickFault : {D : Type 0} → PenOf D → PenOf D → PenFault → Type 0
IsTickFault old new fault =
    ((fault ≡ faults.Broken) × (old.broken ≡ true) × (new ≡ old))
    ⊎ ((job : JobOf) × (old.broken ≡ false) × (old.job ≡ Some job) × (fault ≡ faults.Disk (fault_of job.step)) × IsBrokenBy old new)

-- how many calls of the device a tick makes
abbrev pub calls_due : Bool → Option JobOf → ℕ
calls_due broken job = count_due broken (option_map (λ job. call_at job.step 0 []) job)

-- how many calls of the device have failed where this is answered
abbrev pub failed_calls : PenFault → ℕ
failed_calls faults.Broken = 0
failed_calls faults.Busy = 0
failed_calls faults.OldFormat = 0
failed_calls faults.Runs = 0
failed_calls faults.OutOfRange = 0
failed_calls faults.TooLarge = 0
failed_calls faults.Unfolded = 0
failed_calls faults.FileFull = 0
failed_calls faults.Memory = 0
failed_calls faults.Exists = 0
failed_calls (faults.Disk fault) = 1

-- the vector once the job in hand is done
abbrev pub vector_with : Shape → List (List ℕ) → Option JobOf → List (List ℕ)
vector_with shape vector None = vector
vector_with shape vector (Some job) = after_frame shape.width vector job.frame

abbrev pub vector_after : {D : Type 0} → PenOf D → List (List ℕ)
vector_after pen = vector_with pen.shape pen.vector pen.job

-- ---- ticks of the homes

-- nothing of it has changed but the disk and the fold
pub record HomesCalled {D : Type 0} (fold : FoldOf) (old new : PenOf D) : Type 0 where
  pub fold_was : old.fold ≡ Some fold
  pub fold_is : new.fold ≡ Some (called fold)
  pub job_same : new.job ≡ old.job
  pub shape_same : new.shape ≡ old.shape
  pub tally_same : new.tally ≡ old.tally
  pub gate_same : new.gate ≡ old.gate
  pub room_same : new.room ≡ old.room
  pub places_same : new.places ≡ old.places

-- the frame of a fold whose homes are on the disk is the log job
pub record FilesFold {D : Type 0} (fold : FoldOf) (old new : PenOf D) : Type 0 where
  pub fold_was : old.fold ≡ Some fold
  pub ready : fold.stage ≡ folds.Ready
  pub idle : old.job ≡ None
  pub fold_is : new.fold ≡ Some (record { count = fold.count; left = fold.left; stage = folds.Filed })
  pub job_is : new.job ≡ Some (record { frame = Fold fold.count; step = steps.Body })
  pub disk_same : new.disk ≡ old.disk
  pub shape_same : new.shape ≡ old.shape
  pub tally_same : new.tally ≡ old.tally
  pub gate_same : new.gate ≡ old.gate
  pub places_same : new.places ≡ old.places

-- a fold has no call of its own to make, and a job is in hand, maybe its own frame
pub record IsWaiting {D : Type 0} (fold : FoldOf) (old new : PenOf D) : Type 0 where
  pub fold_was : old.fold ≡ Some fold
  pub at : (fold.stage ≡ folds.Ready) ⊎ (fold.stage ≡ folds.Filed)
  pub busy : is_some old.job ≡ true
  pub same : new ≡ old

-- what a tick makes of a pen, whatever the disk
abbrev pub IsHomeTicked : {D : Type 0} → PenOf D → PenOf D → HomeTicked → Type 0
IsHomeTicked old new home_ticks.Idle = (old.fold ≡ None) × (new ≡ old)
IsHomeTicked old new home_ticks.Step = (fold : FoldOf) × (has_call fold.stage ≡ true) × HomesCalled fold old new
IsHomeTicked old new home_ticks.Filed = (fold : FoldOf) × FilesFold fold old new
IsHomeTicked old new home_ticks.Waiting = (fold : FoldOf) × IsWaiting fold old new

-- what a tick makes of the disk: what the call does that is due, the first write that is left, or their sync; else it
-- makes none
abbrev pub HomeTickCalls : Option FoldOf → HomeTicked → List State → List State → Type 0
HomeTickCalls fold home_ticks.Idle old new = new ≡ old
HomeTickCalls fold home_ticks.Step old new = IfSome (due fold) (λ call. Makes call old new)
HomeTickCalls fold home_ticks.Filed old new = new ≡ old
HomeTickCalls fold home_ticks.Waiting old new = new ≡ old

-- and what it makes of it where the call fails; a pen that is broken makes none
abbrev pub HomeTickFails : Bool → Option FoldOf → List State → List State → Type 0
HomeTickFails true fold old new = new ≡ old
HomeTickFails false fold old new = IfSome (due fold) (λ call. Fails call old new)

-- why it was refused
abbrev pub IsHomeFault : {D : Type 0} → PenOf D → PenOf D → PenFault → Type 0
IsHomeFault old new fault =
    ((fault ≡ faults.Broken) × (old.broken ≡ true) × (new ≡ old))
    ⊎ ((fold : FoldOf) × (old.broken ≡ false) × (old.fold ≡ Some fold) × (has_call fold.stage ≡ true)
    × (fault ≡ faults.Disk (home_fault fold.stage)) × IsBrokenBy old new)

-- how many calls of the device a tick makes
abbrev pub home_calls_due : Bool → Option FoldOf → ℕ
home_calls_due true fold = 0
home_calls_due false None = 0
home_calls_due false (Some fold) = if has_call fold.stage then 1 else 0

-- ---- the begin of a fold

-- the bytes that a job in hand will add
abbrev pub job_len : Shape → Option JobOf → ℕ
job_len shape None = 0
job_len shape (Some job) = length (frame_text shape.format job.frame)

-- where the gate will stand behind the job in hand and the fold's frame
abbrev pub gate_behind_fold : {D : Type 0} → PenOf D → ℕ
gate_behind_fold pen = pen.gate + job_len pen.shape pen.job + 14

-- whether there is something to fold, and room for the frame
abbrev pub IsReadyToFold : {D : Type 0} → PenOf D → Bool → Type 0
IsReadyToFold pen true = (pen.broken ≡ false) × (pen.fold ≡ None) × (pen.tally.folded < pen.tally.changes) × (gate_behind_fold pen < 2 ^ 48)
IsReadyToFold pen false = (pen.broken ≡ false) × (pen.fold ≡ None) × (pen.tally.changes ≤ pen.tally.folded)

-- why none may be begun, whatever memory there is
abbrev pub IsFoldBarred : {D : Type 0} → PenOf D → PenFault → Type 0
IsFoldBarred pen fault =
    ((fault ≡ faults.Broken) × (pen.broken ≡ true))
    ⊎ (((fault ≡ faults.Busy) × (pen.broken ≡ false) × (is_some pen.fold ≡ true))
    ⊎ ((fault ≡ faults.FileFull) × (pen.broken ≡ false) × (pen.fold ≡ None) × (pen.tally.folded < pen.tally.changes)
    × (2 ^ 48 ≤ gate_behind_fold pen)))

-- A fold of all changes in the file is in hand, and nothing else has changed.
pub record BeginsFold {D : Type 0} (old new : PenOf D) : Type 0 where
  pub ready : IsReadyToFold old true
  pub left : List HomeWrite
  pub some : 0 < length left
  pub fold_is : new.fold ≡ Some (record { count = old.tally.changes; left = left; stage = folds.Home (length left) })
  pub disk_same : new.disk ≡ old.disk
  pub file_same : FileSame old new
  pub job_same : new.job ≡ old.job
  pub broken_same : new.broken ≡ old.broken
  pub shape_same : new.shape ≡ old.shape
  pub tally_same : new.tally ≡ old.tally
  pub gate_same : new.gate ≡ old.gate
  pub room_same : new.room ≡ old.room
  pub places_same : new.places ≡ old.places

-- whether one was begun: not where no change is live
abbrev pub IsFoldAnswer : {D : Type 0} → PenOf D → PenOf D → Bool → Type 0
IsFoldAnswer old new true = BeginsFold old new
IsFoldAnswer old new false = IsReadyToFold old false × (new ≡ old)

-- why none was
abbrev pub IsFoldRefusal : {D : Type 0} → PenOf D → PenFault → Type 0
IsFoldRefusal old fault = IsFoldBarred old fault ⊎ ((fault ≡ faults.Memory) × IsReadyToFold old true)

-- ---- begins

-- The same pen. Its memory may have grown, or been given back.
pub record IsUnchanged {D : Type 0} (old new : PenOf D) : Type 0 where
  pub disk_same : new.disk ≡ old.disk
  pub file_same : FileSame old new
  pub job_same : new.job ≡ old.job
  pub broken_same : new.broken ≡ old.broken
  pub shape_same : new.shape ≡ old.shape
  pub fold_same : new.fold ≡ old.fold
  pub tally_same : new.tally ≡ old.tally
  pub gate_same : new.gate ≡ old.gate

-- A job is in hand, and nothing else has changed but the memory for it.
pub record BeginsFrame {D : Type 0} (frame : Frame) (old new : PenOf D) : Type 0 where
  pub job_is : new.job ≡ Some (record { frame = frame; step = steps.Body })
  pub disk_same : new.disk ≡ old.disk
  pub file_same : FileSame old new
  pub broken_same : new.broken ≡ old.broken
  pub shape_same : new.shape ≡ old.shape
  pub fold_same : new.fold ≡ old.fold
  pub tally_same : new.tally ≡ old.tally
  pub gate_same : new.gate ≡ old.gate

-- ---- the stage

abbrev pub log_left : Option JobOf → ℕ
log_left None = 0
log_left (Some job) = steps_left job.step

abbrev pub fold_stage : Option FoldOf → FoldStage
fold_stage None = folds.None
fold_stage (Some fold) = fold.stage

abbrev pub stage_of : {D : Type 0} → PenOf D → Stage
stage_of pen = record { log = log_left pen.job; fold = fold_stage pen.fold }
