-- Ticks of the lanes, and why a flusher refuses.
use Rattle.std.specs.Prelude.{◌≡◌, ◌⊎◌, ℕ, ◌<◌, [], ◌∷◌, take, Some, None}
use Rattle.segment_core.specs.Shape.{limit_of}
use Rattle.segment_core.specs.Written.{payload_len}
use Rattle.pen_core.specs.declared.fault.PenFault.{PenFault}
use Rattle.pen_core.specs.declared.fault.PenFault.TheVariants as faults
use Rattle.pen_core.specs.declared.stage.Ticked.TheVariants as log_ticks
use Rattle.pen_core.specs.declared.stage.HomeTicked.TheVariants as home_ticks
use Rattle.pen_core.specs.PenOf.{PenOf}
use Rattle.pen_core.specs.Pen.{IsTicked, IsTickFault, IsHomeTicked, IsHomeFault, calls_due, home_calls_due, failed_calls, IsFoldRefusal}
use Rattle.pen_core.specs.Refusals.{first_refusal, IsRefusal, ready_lines, is_full}
use Rattle.flush_core.specs.declared.lane.Lane.{Lane}
use Rattle.flush_core.specs.declared.lane.Lane.TheVariants.{Log, Home}
use Rattle.flush_core.specs.declared.lane.Tick.{Tick}
use Rattle.flush_core.specs.declared.lane.Tick.TheVariants.{Idle, Step, Done, Filed, Waiting}
use Rattle.flush_core.specs.declared.fault.FlushFault.{FlushFault}
use Rattle.flush_core.specs.declared.fault.FlushFault.TheVariants.{Pen, Strayed}
use Rattle.flush_core.specs.Flusher.{FlusherOf, untaken}
use Rattle.flush_core.specs.Group.{IsGreatest}

-- ---- ticks

-- what a tick of a lane makes of the pen, whatever the disk
abbrev pub IsLaneTicked : {D : Type 0} → Lane → PenOf D → PenOf D → Tick → Type 0
IsLaneTicked Log old new Idle = IsTicked old new log_ticks.Idle
IsLaneTicked Log old new Step = IsTicked old new log_ticks.Step
IsLaneTicked Log old new Done = IsTicked old new log_ticks.Done
IsLaneTicked Log old new Filed = ⊥
IsLaneTicked Log old new Waiting = ⊥
IsLaneTicked Home old new Idle = IsHomeTicked old new home_ticks.Idle
IsLaneTicked Home old new Step = IsHomeTicked old new home_ticks.Step
IsLaneTicked Home old new Done = ⊥
IsLaneTicked Home old new Filed = IsHomeTicked old new home_ticks.Filed
IsLaneTicked Home old new Waiting = IsHomeTicked old new home_ticks.Waiting

-- how many calls of the device it makes
abbrev pub lane_calls : {D : Type 0} → Lane → PenOf D → ℕ
lane_calls Log pen = calls_due pen.broken pen.job
lane_calls Home pen = home_calls_due pen.broken pen.fold

-- what is settled behind it: all that was taken, once the job is done
abbrev pub settled_behind : {R D : Type 0} → FlusherOf R D → Tick → ℕ
settled_behind f Idle = f.settled
settled_behind f Step = f.settled
settled_behind f Done = f.taken
settled_behind f Filed = f.settled
settled_behind f Waiting = f.settled

-- why it was refused
abbrev pub IsLaneFault : {D : Type 0} → Lane → PenOf D → PenOf D → FlushFault → Type 0
IsLaneFault Log old new (Pen fault) = IsTickFault old new fault
IsLaneFault Home old new (Pen fault) = IsHomeFault old new fault
IsLaneFault lane old new (Strayed number) = ⊥

-- how many calls of the device have failed where this is answered
abbrev pub failed : FlushFault → ℕ
failed (Pen fault) = failed_calls fault
failed (Strayed number) = 0

-- ---- groups

-- Why none was begun by a pen that might: the file has no room for the greatest group, or there was no memory for it.
pub record IsNotBegun {R D : Type 0} (width : ℕ) (f : FlusherOf R D) (fault : PenFault) : Type 0 where
  pub count : ℕ
  pub greatest : IsGreatest width (limit_of f.pen.shape.format) (untaken f) count
  pub some : 0 < count
  pub ready : first_refusal (ready_lines f.pen) ≡ None
  pub why : IsRefusal ((is_full f.pen (payload_len width (take count (untaken f))), faults.FileFull) ∷ []) fault

-- why none was begun: the pen is broken or has a job, or that
abbrev pub IsTakeFault : {R D : Type 0} → ℕ → FlusherOf R D → FlushFault → Type 0
IsTakeFault width f (Pen fault) = (first_refusal (ready_lines f.pen) ≡ Some fault) ⊎ IsNotBegun width f fault
IsTakeFault width f (Strayed number) = ⊥

-- ---- folds

-- why none was begun
abbrev pub IsFoldFault : {R D : Type 0} → FlusherOf R D → FlushFault → Type 0
IsFoldFault f (Pen fault) = IsFoldRefusal f.pen fault
IsFoldFault f (Strayed number) = ⊥
