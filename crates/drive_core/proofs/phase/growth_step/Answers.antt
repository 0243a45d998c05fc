use Rattle.drive_core.proofs.PhaseEvents.{left_growth}
use Rattle.drive_core.proofs.Steps.{tied_to}
use Rattle.drive_core.proofs.phase.growth_step.Goals as goal

pub returns-clause-steps : goal.returns-clause-steps
returns-clause-steps g c = λ w tie. tied_to (λ w' tied. left_growth tied) (c.answer-answer.ensures.steps w tie.0 tie.1)
