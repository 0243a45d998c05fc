-- The log, ticked to its end.
use Rattle.std.specs.Prelude.{◌≡◌, ◌⊎◌, ℕ, ◌+◌, true, false, List, Option, Some, None, MatchOption}
use Rattle.disk_core.specs.State.{State}
use Rattle.disk_core.specs.Moments.{LeavesOnly, clock}
use Rattle.segment_core.specs.Frame.{Frame}
use Rattle.pen_core.specs.declared.step.PenStep.{PenStep}
use Rattle.pen_core.specs.Step.{fault_of}
use Rattle.pen_core.specs.declared.fault.PenFault.{PenFault}
use Rattle.pen_core.specs.declared.fault.PenFault.TheVariants as faults
use Rattle.pen_core.specs.PenOf.{PenOf, JobOf}
use Rattle.pen_core.specs.Vectors.{frames_with}
use Rattle.pen_core.specs.Pen.{CountsSame, CountsDone, FileSame, MayOpen, log_left}

-- the job of before has been settled
abbrev pub IsLogSettled : {D : Type 0} → PenOf D → PenOf D → Type 0
IsLogSettled old new = MatchOption old.job (new ≡ old) (λ job. CountsDone job.frame old new)

-- the file's frames once the job is done, but for their home bytes
abbrev pub frames_and : List Frame → Option JobOf → List Frame
frames_and frames None = frames
frames_and frames (Some job) = frames_with frames job.frame

abbrev pub frames_after : {D : Type 0} → PenOf D → List Frame
frames_after pen = frames_and pen.frames pen.job

-- a device call of the job has failed: it stands where it stood
pub record StopsAt {D : Type 0} (frame : Frame) (step : PenStep) (old new : PenOf D) : Type 0 where
  pub job_is : new.job ≡ Some (record { frame = frame; step = step })
  pub broken : new.broken ≡ true
  pub counts_same : CountsSame old new

-- why the job of before hasn't been settled
abbrev pub IsLogFault : {D : Type 0} → PenOf D → PenOf D → PenFault → Type 0
IsLogFault old new fault =
    ((fault ≡ faults.Broken) × (old.broken ≡ true) × (new ≡ old))
    ⊎ ((job : JobOf) × (step : PenStep) × (old.broken ≡ false) × (old.job ≡ Some job) × (fault ≡ faults.Disk (fault_of step))
    × StopsAt job.frame step old new)

-- a stretch of calls, none of them the last one
pub record LogGoes {D : Type 0} (keeps : D → Type 0) (states : D → List State) (faults : D → ℕ) (old new : PenOf D) : Type 0 where
  pub images : keeps new.disk → LeavesOnly (states old.disk) (states new.disk) (MayOpen old)
  pub job : JobOf
  pub step : PenStep
  pub job_was : old.job ≡ Some job
  pub job_is : new.job ≡ Some (record { frame = job.frame; step = step })
  pub counts_same : CountsSame old new
  pub file_same : keeps new.disk → FileSame old new
  pub whole : (old.broken ≡ false) × (new.broken ≡ false)
  pub time : clock (states new.disk) + log_left new.job ≡ clock (states old.disk) + log_left old.job
  pub no_fault : faults new.disk ≡ faults old.disk
  pub model : keeps new.disk → keeps old.disk
  pub goes_on : keeps old.disk → keeps new.disk
