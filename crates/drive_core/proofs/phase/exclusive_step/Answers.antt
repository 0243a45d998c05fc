use Rattle.drive_core.proofs.PhaseEvents.{left_exclusive}
use Rattle.drive_core.proofs.Steps.{tied_to}
use Rattle.drive_core.proofs.phase.exclusive_step.Goals as goal

pub returns-clause-steps : goal.returns-clause-steps
returns-clause-steps g c = λ w tie. tied_to (λ w' tied. left_exclusive tied) (c.command-answer.ensures.steps w tie)
