-- Why serving ends before all is settled.
use Rattle.std.proofs.Common.{◌≡◌, ℕ, Result, Ok, Err, IfErr, inl, inr, sym, subst, ◌∙◌}
use Rattle.pen_core.specs.declared.fault.PenFault.{PenFault}
use Rattle.pen_core.specs.declared.fault.PenFault.TheVariants as faults
use Rattle.pen_core.specs.Pen.{IsTickFault}
use Rattle.book_core.specs.Marks.{MarkEnd}
use Rattle.flush_core.specs.declared.fault.FlushFault.{FlushFault}
use Rattle.flush_core.specs.declared.fault.FlushFault.TheVariants.{Pen, Strayed}
use Rattle.flush_core.specs.declared.lane.Lane.TheVariants.{Log}
use Rattle.flush_core.specs.Flusher.{FlusherOf}
use Rattle.flush_core.specs.Refusals.{IsLaneFault, IsNotBegun}
use Rattle.flush_core.specs.Serving.{IsServeFault}

module _ {R D : Type 0} (width : ℕ) where
  -- of a later stretch, where the pen broke in none before
  pub IsServeFault-since : (old mid new : FlusherOf R D) (fault : FlushFault) → mid.pen.broken ≡ old.pen.broken → IsServeFault width mid new fault → IsServeFault width old new fault
  IsServeFault-since old mid new (Pen faults.Broken) same is = sym same ∙ is
  IsServeFault-since old mid new (Pen faults.FileFull) same is = is
  IsServeFault-since old mid new (Pen faults.Memory) same is = is
  IsServeFault-since old mid new (Pen (faults.Disk cause)) same is = is
  IsServeFault-since old mid new (Strayed number) same is = is
  IsServeFault-since old mid new (Pen faults.Busy) same is = is
  IsServeFault-since old mid new (Pen faults.OldFormat) same is = is
  IsServeFault-since old mid new (Pen faults.Runs) same is = is
  IsServeFault-since old mid new (Pen faults.OutOfRange) same is = is
  IsServeFault-since old mid new (Pen faults.TooLarge) same is = is
  IsServeFault-since old mid new (Pen faults.Unfolded) same is = is
  IsServeFault-since old mid new (Pen faults.Exists) same is = is

  -- whatever the mark then tells
  not_begun_told : (f : FlusherOf R D) (mark : MarkEnd) (fault : PenFault) → IsNotBegun width f fault → IsNotBegun width (record f { mark = mark }) fault
  not_begun_told f mark fault is = record { count = is.count; greatest = is.greatest; some = is.some; ready = is.ready; why = is.why }

  fault_told : (old new : FlusherOf R D) (mark : MarkEnd) (fault : FlushFault) → IsServeFault width old new fault → IsServeFault width old (record new { mark = mark }) fault
  fault_told old new mark (Pen faults.Broken) is = is
  fault_told old new mark (Pen faults.FileFull) is = (is.0, not_begun_told new mark faults.FileFull is.1)
  fault_told old new mark (Pen faults.Memory) is = (is.0, not_begun_told new mark faults.Memory is.1)
  fault_told old new mark (Pen (faults.Disk cause)) is = is
  fault_told old new mark (Strayed number) is = is
  fault_told old new mark (Pen faults.Busy) is = is
  fault_told old new mark (Pen faults.OldFormat) is = is
  fault_told old new mark (Pen faults.Runs) is = is
  fault_told old new mark (Pen faults.OutOfRange) is = is
  fault_told old new mark (Pen faults.TooLarge) is = is
  fault_told old new mark (Pen faults.Unfolded) is = is
  fault_told old new mark (Pen faults.Exists) is = is

  pub IsServeFault-told : {A : Type 0} (old mid new : FlusherOf R D) (mark : MarkEnd) (served : Result A FlushFault)
      → new ≡ record mid { mark = mark } → IfErr served (λ fault. IsServeFault width old mid fault)
      → IfErr served (λ fault. IsServeFault width old new fault)
  IsServeFault-told old mid new mark (Ok done) same is = tt
  IsServeFault-told old mid new mark (Err fault) same is = subst (λ (f : FlusherOf R D). IsServeFault width old f fault) (sym same) (fault_told old mid mark fault is)

  -- of a tick of the log
  tick_fault : (old new : FlusherOf R D) (fault : PenFault) → IsTickFault old.pen new.pen fault → IsServeFault width old new (Pen fault)
  tick_fault old new fault is = elim is [
    | inl was ↦ subst (λ (f : PenFault). IsServeFault width old new (Pen f)) (sym was.0) was.1
    | inr broke ↦ subst (λ (f : PenFault). IsServeFault width old new (Pen f)) (sym broke.3) broke.4.broken
  ]

  pub IsServeFault-tick : (old new : FlusherOf R D) (fault : FlushFault) → IsLaneFault Log old.pen new.pen fault → IsServeFault width old new fault
  IsServeFault-tick old new (Pen fault) is = tick_fault old new fault is
  IsServeFault-tick old new (Strayed number) is = absurd is
