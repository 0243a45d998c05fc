-- The calls that are left of the job in hand, which a tick makes fewer.
use Rattle.std.proofs.Common.{◌≡◌, ◌<◌, Option, Some, sym, subst, arith}
use Rattle.std.proofs.lemmas.Option.{same_Some}
use Rattle.pen_core.specs.declared.step.PenStep.{PenStep}
use Rattle.pen_core.specs.declared.step.PenStep.TheVariants.{Body, BodySync, Gate, GateSync}
use Rattle.pen_core.specs.Step.{step_after, steps_left}
use Rattle.pen_core.specs.PenOf.{PenOf, JobOf}
use Rattle.pen_core.specs.Pen.{log_left}
use Rattle.flush_core.specs.declared.lane.Lane.TheVariants.{Log}
use Rattle.flush_core.specs.declared.lane.Tick.{Tick}
use Rattle.flush_core.specs.declared.lane.Tick.TheVariants as ticks
use Rattle.flush_core.specs.Refusals.{IsLaneTicked}

steps_left-after : (step next : PenStep) → step_after step ≡ Some next → steps_left next < steps_left step
steps_left-after Body next is = subst (λ (s : PenStep). steps_left s < 4) (same_Some BodySync next is) (omega arith)
steps_left-after BodySync next is = subst (λ (s : PenStep). steps_left s < 3) (same_Some Gate next is) (omega arith)
steps_left-after Gate next is = subst (λ (s : PenStep). steps_left s < 2) (same_Some GateSync next is) (omega arith)
steps_left-after GateSync next is = absurd cc

-- a tick behind which more are left makes one of them
pub log_left-step : {D : Type 0} (old new : PenOf D) (tick : Tick) → tick ≡ ticks.Step → IsLaneTicked Log old new tick → log_left new.job < log_left old.job
log_left-step old new tick is ticked =
    let h : IsLaneTicked Log old new ticks.Step = subst (λ (t : Tick). IsLaneTicked Log old new t) is ticked in
    subst (λ (j : Option JobOf). log_left j < log_left old.job) (sym h.2.2)
    (subst (λ (j : Option JobOf). steps_left h.2.0 < log_left j) (sym h.1) (steps_left-after h.0.step h.2.0 h.2.1))
