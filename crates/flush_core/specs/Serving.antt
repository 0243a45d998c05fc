-- How serving goes on, and how it ends.
use Rattle.std.specs.Prelude.{◌≡◌, ℕ, List, length, true, Option, Some, None}
use Rattle.record_core.specs.Bytes.{Encoding}
use Rattle.disk_core.specs.State.{State}
use Rattle.disk_core.specs.Moments.{LeavesOnly}
use Rattle.pen_core.specs.declared.fault.PenFault.TheVariants as faults
use Rattle.pen_core.specs.PenOf.{JobOf, FoldOf}
use Rattle.pen_core.specs.Pen.{fold_behind}
use Rattle.book_core.specs.declared.mark.MarkState.TheVariants.{Ended, Broken}
use Rattle.flush_core.specs.declared.fault.FlushFault.{FlushFault}
use Rattle.flush_core.specs.declared.fault.FlushFault.TheVariants.{Pen, Strayed}
use Rattle.flush_core.specs.Flusher.{FlusherOf, FlusherGoesOn, OpensToFirst}
use Rattle.flush_core.specs.Refusals.{IsNotBegun}

-- the fold that is in hand once the job in hand is done
abbrev pub fold_with : Option JobOf → Option FoldOf → Option FoldOf
fold_with None fold = fold
fold_with (Some job) fold = fold_behind job.frame fold

-- A stretch of serving: whatever a crash may leave from the moment of the old flusher up to that of the new one opens to
-- the records from before the phase and the first growths, those that were settled at the old one among them. It makes no
-- call of a fold, which ends with its own frame where that was the job in hand.
pub record Serves {R D : Type 0} (form : Encoding R) (keeps : D → Type 0) (states : D → List State) (old new : FlusherOf R D) : Type 0 where
  pub goes_on : FlusherGoesOn (keeps new.pen.disk) old new
  pub images : keeps new.pen.disk → LeavesOnly (states old.pen.disk) (states new.pen.disk) (OpensToFirst form old.settled new)
  pub model : keeps new.pen.disk → keeps old.pen.disk
  pub fold : fold_with new.pen.job new.pen.fold ≡ fold_with old.pen.job old.pen.fold

-- every growth that it knows is settled, no job is in hand, and the mark says so
pub record HasSettledAll {R D : Type 0} (f : FlusherOf R D) : Type 0 where
  pub all : f.settled ≡ length f.pass.entries
  pub idle : f.pen.job ≡ None
  pub told : f.mark.told ≡ record { count = f.settled; state = Ended }

-- the mark says what is settled, and that no more will be
abbrev pub TellsBroken : {R D : Type 0} → FlusherOf R D → Type 0
TellsBroken f = f.mark.told ≡ record { count = f.settled; state = Broken }

-- Why serving ended before all was settled: the pen was broken, the file has no room for the next group or there was no
-- memory for it, a call of the device failed, or the growth behind those that it knows strayed.
abbrev pub IsServeFault : {R D : Type 0} → ℕ → FlusherOf R D → FlusherOf R D → FlushFault → Type 0
IsServeFault width old new (Pen faults.Broken) = old.pen.broken ≡ true
IsServeFault width old new (Pen faults.Busy) = ⊥
IsServeFault width old new (Pen faults.OldFormat) = ⊥
IsServeFault width old new (Pen faults.Runs) = ⊥
IsServeFault width old new (Pen faults.OutOfRange) = ⊥
IsServeFault width old new (Pen faults.TooLarge) = ⊥
IsServeFault width old new (Pen faults.Unfolded) = ⊥
IsServeFault width old new (Pen faults.FileFull) = (new.pen.job ≡ None) × IsNotBegun width new faults.FileFull
IsServeFault width old new (Pen faults.Memory) = (new.pen.job ≡ None) × IsNotBegun width new faults.Memory
IsServeFault width old new (Pen faults.Exists) = ⊥
IsServeFault width old new (Pen (faults.Disk cause)) = new.pen.broken ≡ true
IsServeFault width old new (Strayed number) = (number ≡ length new.pass.entries) × (new.pen.job ≡ None)
