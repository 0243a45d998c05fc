use Rattle.play_core.proofs.StepLines.{no_choice}
use Rattle.play_core.proofs.step_line.read_crash.Goals as goal

pub returns-in_default-choice_of-clause-bad : goal.returns-in_default-choice_of-clause-bad
returns-in_default-choice_of-clause-bad g c = λ bad. no_choice g.R.TextRecord.spelling _ c.in-Some.word.now c.in-Some.ensures.found c.in_default-choice_of.ensures.unnamed
