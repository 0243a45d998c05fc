use Rattle.drive_core.specs.Step as step
use Rattle.drive_core.specs.GrowthRows.{IsMarkRead}
use Rattle.drive_core.proofs.GrowthEvents.{seat_steps, misplaced_steps, of_none, wrong}
use Rattle.drive_core.proofs.growth.settled.Goals as goal

pub returns-in-Some-clause-steps : goal.returns-in-Some-clause-steps
returns-in-Some-clause-steps g c = λ w phase tie. seat_steps tie step.Settled c.in-Some.ensures.0 (c.settled.ensures.steps w phase tie)

pub returns-in-None-clause-steps : goal.returns-in-None-clause-steps
returns-in-None-clause-steps g c = λ w phase tie.
    misplaced_steps tie (step.Settled c.args.seat) c.misplaced.ensures (of_none tie (IsMarkRead w phase c.args.seat wrong w) c.in-None.ensures)
