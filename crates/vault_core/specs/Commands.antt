-- Commands: what each makes of the pen, and why it is refused.
use Rattle.std.specs.Prelude.{◌≡◌, ◌⊎◌, ℕ, zero, suc, ◌+◌, ◌-◌, ◌*◌, Bool, true, false, List, [], ◌∷◌, ◌++◌, length, replicate, take, Option, Some, None, MatchOption, MatchResult, OnOk}
use Rattle.std.specs.List.{flat_map}
use Rattle.std.specs.declared.result.Result.{Result}
use Rattle.record_core.specs.Bytes.{Encoding}
use Rattle.disk_core.specs.State.{State}
use Rattle.disk_core.specs.Moments.{LeavesOnly, clock}
use Rattle.segment_core.specs.Frame.{Run, Frame, Change, frame_text}
use Rattle.segment_core.specs.Raw.{AreCellsOf}
use Rattle.segment_core.specs.Tally.{after}
use Rattle.segment_core.specs.Written.{joined}
use Rattle.pen_core.specs.declared.step.PenStep.{PenStep}
use Rattle.pen_core.specs.Step.{fault_of}
use Rattle.pen_core.specs.declared.fault.PenFault.{PenFault}
use Rattle.pen_core.specs.declared.fault.PenFault.TheVariants as faults
use Rattle.pen_core.specs.PenOf.{PenOf, JobOf}
use Rattle.pen_core.specs.Pen.{BeginsFrame, FileSame, FileGains, FileTicked, IsUnchanged, fold_behind, log_left, failed_calls, vector_after, IsTickFault, IsHomeFault, IsFoldRefusal}
use Rattle.pen_core.specs.Refusals.{IsRefusal, first_refusal}
use Rattle.vault_core.specs.declared.fault.VaultFault.{VaultFault}
use Rattle.vault_core.specs.declared.fault.VaultFault.TheVariants.{Pen, Unsettled, WrongPhase}
use Rattle.flush_core.specs.declared.lane.Lane.{Lane}
use Rattle.flush_core.specs.declared.lane.Lane.TheVariants.{Log, Home}
use Rattle.flush_core.specs.declared.lane.Tick.{Tick}
use Rattle.flush_core.specs.declared.lane.Tick.TheVariants as ticks
use Rattle.pen_core.specs.declared.stage.Ticked.TheVariants as log_ticks
use Rattle.vault_core.specs.Touched.{taken_at}
use Rattle.vault_core.specs.Vault.{VaultOf, IsVault, OpensToEither, list_of}

-- ---- commands

-- A command with this frame has begun over a vault that was whole: the frame is its pen's job, and these blocks are what the
-- file has once the frame stands in it.
pub record IsBegun {R D : Type 0} (form : Encoding R) (keeps : D → Type 0) (v : VaultOf R D) (frame : Frame) (pen : PenOf D) (blocks : List (List R)) : Type 0 where
  pub kept : IsVault (keeps v.pen.disk) form v
  pub whole : v.pen.broken ≡ false
  pub begins : BeginsFrame frame v.pen pen
  pub size_is : (after v.pen.tally frame).size ≡ length (joined blocks)
  pub next_is : keeps v.pen.disk → AreCellsOf form (vector_after pen) (joined blocks)

-- the command's frame stands in the file
pub record IsCommitted {D : Type 0} (frame : Frame) (old new : PenOf D) : Type 0 where
  pub shape_same : new.shape ≡ old.shape
  pub fold_is : new.fold ≡ fold_behind frame old.fold
  pub tally_is : new.tally ≡ after old.tally frame
  pub gate_is : new.gate ≡ old.gate + length (frame_text old.shape.format frame)
  pub idle : new.job ≡ None
  pub whole : new.broken ≡ false

-- Its commit stopped at this step, where a device call failed.
pub record IsStopped {D : Type 0} (frame : Frame) (step : PenStep) (old new : PenOf D) : Type 0 where
  pub job_is : new.job ≡ Some (record { frame = frame; step = step })
  pub broken : new.broken ≡ true
  pub shape_same : new.shape ≡ old.shape
  pub fold_same : new.fold ≡ old.fold
  pub tally_same : new.tally ≡ old.tally
  pub gate_same : new.gate ≡ old.gate

-- a commit stopped where a device call failed
abbrev pub IsStopFault : VaultFault → Type 0
IsStopFault fault = (step : PenStep) × (fault ≡ Pen (faults.Disk (fault_of step)))

-- Why a command isn't settled: one of these tests refused it, or memory was refused, and nothing has changed; or none
-- did, and its commit stopped.
abbrev pub IsCommandFault : {D : Type 0} → Frame → List (Bool × PenFault) → PenOf D → PenOf D → VaultFault → Type 0
IsCommandFault frame lines old new (Pen fault) =
    (IsRefusal lines fault × IsUnchanged old new)
    ⊎ ((step : PenStep) × (first_refusal lines ≡ None) × (fault ≡ faults.Disk (fault_of step)) × IsStopped frame step old new)
IsCommandFault frame lines old new (Unsettled number) = ⊥
IsCommandFault frame lines old new WrongPhase = ⊥

-- what stands behind this answer of a command: what it makes, once its commit has begun, and else what was
abbrev pub StandsBehind : Type 0 → Type 0 → PenFault → Type 0
StandsBehind made was faults.Broken = was
StandsBehind made was faults.Busy = was
StandsBehind made was faults.OldFormat = was
StandsBehind made was faults.Runs = was
StandsBehind made was faults.OutOfRange = was
StandsBehind made was faults.TooLarge = was
StandsBehind made was faults.Unfolded = was
StandsBehind made was faults.FileFull = was
StandsBehind made was faults.Memory = was
StandsBehind made was faults.Exists = was
StandsBehind made was (faults.Disk cause) = made

abbrev pub StandsCommanded : Type 0 → Type 0 → VaultFault → Type 0
StandsCommanded made was (Pen fault) = StandsBehind made was fault
StandsCommanded made was (Unsettled number) = ⊥
StandsCommanded made was WrongPhase = ⊥

-- how many calls of the device failed where this is answered
abbrev pub failed : VaultFault → ℕ
failed (Pen fault) = failed_calls fault
failed (Unsettled number) = 0
failed WrongPhase = 0

-- how many calls a command has made that answers this and leaves this pen: all up to the one that failed
abbrev pub calls_if : ℕ → ℕ → ℕ
calls_if zero n = 0
calls_if (suc k) n = n

abbrev pub calls_made : {D : Type 0} → PenOf D → VaultFault → ℕ
calls_made new fault = calls_if (failed fault) (5 - log_left new.job)

-- nothing is to be written: only a broken pen refuses it
abbrev pub IsNothingFault : {D : Type 0} → PenOf D → VaultFault → Type 0
IsNothingFault pen fault = (fault ≡ Pen faults.Broken) × (pen.broken ≡ true)

-- ---- changes

-- the frame of a change of these runs to what stands there in this list
abbrev pub changed_frame : {R : Type 0} → Encoding R → List Run → List R → Frame
changed_frame form runs records = Change runs (flat_map form.bytes_of (taken_at runs records))

-- ---- lengths

-- the first n records, and copies where there are fewer
abbrev pub resized : {R : Type 0} → ℕ → R → List R → List R
resized n v records = take n records ++ replicate (n - length records) v

-- ---- folds

abbrev pub IsVaultFoldFault : {D : Type 0} → PenOf D → VaultFault → Type 0
IsVaultFoldFault pen (Pen fault) = IsFoldRefusal pen fault
IsVaultFoldFault pen (Unsettled number) = ⊥
IsVaultFoldFault pen WrongPhase = ⊥

abbrev pub IsVaultLaneFault : {D : Type 0} → Lane → PenOf D → PenOf D → VaultFault → Type 0
IsVaultLaneFault Log old new (Pen fault) = IsTickFault old new fault
IsVaultLaneFault Home old new (Pen fault) = IsHomeFault old new fault
IsVaultLaneFault lane old new (Unsettled number) = ⊥
IsVaultLaneFault lane old new WrongPhase = ⊥

-- what a tick makes of the file: the last one of a job brings its frame into it
abbrev pub FileLogTicked : {D : Type 0} → PenOf D → PenOf D → Tick → Type 0
FileLogTicked old new ticks.Idle = FileSame old new
FileLogTicked old new ticks.Step = FileSame old new
FileLogTicked old new ticks.Done = FileTicked old new log_ticks.Done
FileLogTicked old new ticks.Filed = FileSame old new
FileLogTicked old new ticks.Waiting = FileSame old new

abbrev pub FileLaneTicked : {D : Type 0} → Lane → PenOf D → PenOf D → Tick → Type 0
FileLaneTicked Log old new tick = FileLogTicked old new tick
FileLaneTicked Home old new tick = FileSame old new

-- ---- what every command promises

-- A command with this frame, which these tests may refuse: what it makes of the pen, whatever the disk; that none of the
-- tests holds where it is settled; that the file gains just this frame then, and else nothing; what is sure behind it; and
-- that each image that a crash may leave meanwhile opens to the list that was sure, or to the one behind it.
pub record IsCommand {R D : Type 0} (form : Encoding R) (keeps : D → Type 0) (states : D → List State) (faults : D → ℕ) (frame : Frame)
    (lines : List (Bool × PenFault)) (old new : VaultOf R D) (result : Result (Unit {0}) VaultFault) : Type 0 where
  pub pen : MatchResult result (λ _. IsCommitted frame old.pen new.pen) (λ fault. IsCommandFault frame lines old.pen new.pen fault)
  pub allowed : OnOk result (first_refusal lines ≡ None)
  pub file : keeps new.pen.disk → MatchResult result (λ _. FileGains frame old.pen new.pen) (λ _. FileSame old.pen new.pen)
  pub sure : keeps new.pen.disk → MatchResult result (λ _. new.sure ≡ list_of new) (λ _. new.sure ≡ old.sure)
  pub images : keeps new.pen.disk → MatchResult result
      (λ _. LeavesOnly (states old.pen.disk) (states new.pen.disk) (OpensToEither form old.sure (list_of new)))
      (StandsCommanded (LeavesOnly (states old.pen.disk) (states new.pen.disk) (OpensToEither form old.sure (list_of new))) (new.pen.disk ≡ old.pen.disk))
  pub time : MatchResult result
      (λ _. clock (states new.pen.disk) ≡ clock (states old.pen.disk) + 4)
      (λ fault. clock (states new.pen.disk) ≡ clock (states old.pen.disk) + calls_made new.pen fault)
  pub failed_calls : MatchResult result
      (λ _. faults new.pen.disk ≡ faults old.pen.disk)
      (λ fault. faults new.pen.disk ≡ faults old.pen.disk + failed fault)
  pub model : keeps new.pen.disk → keeps old.pen.disk
  pub goes_on : keeps old.pen.disk → OnOk result (keeps new.pen.disk)
