use Rattle.std.proofs.Common.{ap}
use Rattle.drive_core.specs.Asked.{step_of}
use Rattle.drive_core.proofs.Steps.{asked_as}
use Rattle.drive_core.proofs.phase.shut_step.Goals as goal

pub returns-in-Create-clause-steps : goal.returns-in-Create-clause-steps
returns-in-Create-clause-steps g c = λ w tie. asked_as (ap step_of c.in-Create.is) (c.create.ensures.steps w tie)

pub returns-in-Open-clause-steps : goal.returns-in-Open-clause-steps
returns-in-Open-clause-steps g c = λ w tie. asked_as (ap step_of c.in-Open.is) (c.open.ensures.steps w tie)
