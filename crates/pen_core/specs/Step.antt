-- The four device calls of a commit.
use Rattle.std.specs.Prelude.{ℕ, ◌+◌, List, [], ◌∷◌, drop, Option, Some, None}
use Rattle.disk_core.specs.State.{State}
use Rattle.disk_core.specs.declared.fault.DiskFault.{DiskFault}
use Rattle.pen_core.specs.declared.step.PenStep.{PenStep}
use Rattle.pen_core.specs.Call.{Call, Write, Sync, Makes, Fails, cause_of}
use Rattle.pen_core.specs.declared.step.PenStep.TheVariants.{Body, BodySync, Gate, GateSync}

abbrev pub step_after : PenStep → Option PenStep
step_after Body = Some BodySync
step_after BodySync = Some Gate
step_after Gate = Some GateSync
step_after GateSync = None

-- the device calls that are left, this one among them
abbrev pub steps_left : PenStep → ℕ
steps_left Body = 4
steps_left BodySync = 3
steps_left Gate = 2
steps_left GateSync = 1

-- what is written behind a closed gate: the frame without its own gate, and the next gate, closed
abbrev pub body_of : List ℕ → List ℕ
body_of bytes = drop 1 bytes

-- the call that is due at this step
abbrev pub call_at : PenStep → ℕ → List ℕ → Call
call_at Body gate bytes = Write (gate + 1) (body_of bytes)
call_at BodySync gate bytes = Sync
call_at Gate gate bytes = Write gate (1 ∷ [])
call_at GateSync gate bytes = Sync

-- what it makes of the disk, and what it makes of it where it fails
abbrev pub Calls : PenStep → ℕ → List ℕ → List State → List State → Type 0
Calls step gate bytes old new = Makes (call_at step gate bytes) old new

abbrev pub FailsCall : PenStep → ℕ → List ℕ → List State → List State → Type 0
FailsCall step gate bytes old new = Fails (call_at step gate bytes) old new

-- the fault that it then answers
abbrev pub fault_of : PenStep → DiskFault
fault_of step = cause_of (call_at step 0 [])
