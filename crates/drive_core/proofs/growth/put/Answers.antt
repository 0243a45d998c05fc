use Rattle.drive_core.specs.Step as step
use Rattle.drive_core.specs.GrowthRows.{IsPut}
use Rattle.drive_core.proofs.GrowthEvents.{seat_steps, misplaced_steps, of_none, wrong}
use Rattle.drive_core.proofs.growth.put.Goals as goal

pub returns-in-Some-clause-steps : goal.returns-in-Some-clause-steps
returns-in-Some-clause-steps g c = λ w phase tie. seat_steps tie (λ n. step.Put n c.args.records.now.items) c.in-Some.ensures.0 (c.put.ensures.steps w phase tie)

pub returns-in-None-clause-steps : goal.returns-in-None-clause-steps
returns-in-None-clause-steps g c = λ w phase tie.
    misplaced_steps tie (step.Put c.args.seat c.args.records.now.items) c.misplaced.ensures
    (of_none tie (IsPut g.R.Record.form.width w phase c.args.seat c.args.records.now.items wrong w) c.in-None.ensures)
