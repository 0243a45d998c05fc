use Rattle.std.proofs.Common.{◌<◌, length, ap, refl, sym, subst, ◌∙◌}
use Rattle.block_core.specs.Length.{IsBlockLength, IsBlockRefusal}
use Rattle.drive_core.specs.Step as step
use Rattle.drive_core.specs.declared.fault.StepFault.TheVariants as told
use Rattle.drive_core.proofs.Blocked.{block_refuses, closed_refuses}
use Rattle.drive_core.proofs.Steps.{asked_as}
use Rattle.drive_core.proofs.growing.Growing.put.Goals as goal

pub returns-in-Err-clause-steps : goal.returns-in-Err-clause-steps
returns-in-Err-clause-steps g c = rw (← c.self.view_is) (λ w phase tie.
    let inside = subst (λ (v : _). c.args.seat < length v.seats) (sym c.self.view_is) c.requires.inside in
    let why = subst (λ (rs : _). IsBlockRefusal g.R.Record.form.width (length rs) c.in-Err.fault) c.as_slice.ensures.value c.in-Err.ensures in
    block_refuses tie inside c.args.records.now.items c.in-Err.fault (ap (λ f. step.Refused (told.Grow f)) c.block_fault.ensures) why)

pub returns-then-self-clause-steps : goal.returns-then-self-clause-steps
returns-then-self-clause-steps g c = rw (← c.self.view_is) (λ w phase tie.
    let inside = subst (λ (v : _). c.args.seat < length v.seats) (sym c.self.view_is) c.requires.inside in
    let block = subst (λ (rs : _). IsBlockLength g.R.Record.form.width (length rs)) c.as_slice.ensures.value c.in-Ok.ensures.1 in
    closed_refuses tie inside c.args.records.now.items block refl c.if-self.true)

pub returns-clause-steps : goal.returns-clause-steps
returns-clause-steps g c = λ w phase tie. asked_as (sym (ap (step.Put c.args.seat) (c.in-Ok.ensures.0 ∙ c.as_slice.ensures.value))) (c.publish.ensures.steps w phase tie)
