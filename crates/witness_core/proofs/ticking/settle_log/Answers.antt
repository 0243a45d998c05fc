use Rattle.std.proofs.Common.{◌≡◌, subst, rules}
use Rattle.pen_core.specs.declared.stage.Ticked.TheVariants.{Step}
use Rattle.pen_core.specs.Pen.{IsTicked}
use Rattle.pen_core.proofs.Settled.{log_left-step}
use Rattle.witness_core.proofs.LogTicks.{job_ended}
use Rattle.witness_core.proofs.ticking.settle_log.Goals as goal

pub loop-smaller : goal.loop-smaller
loop-smaller g c =
    let step : c.in_ok-tick_log.field-0 ≡ Step = search rules in
    log_left-step c.loop.pen c.tick_log.new.pen (subst (IsTicked c.loop.pen c.tick_log.new.pen) step c.in_ok-tick_log.ensures.ticked)

pub returns-clause-settled : goal.returns-clause-settled
returns-clause-settled g c =
    let other : c.in_ok-tick_log.field-0 ≡ Step → ⊥ = λ same. search rules in
    job_ended c.loop.pen c.tick_log.new.pen c.in_ok-tick_log.field-0 other c.in_ok-tick_log.ensures.ticked
