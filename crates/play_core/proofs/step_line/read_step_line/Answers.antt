use Rattle.play_core.proofs.LineWords.{next_left}
use Rattle.play_core.proofs.StepLines.{no_verb, no_words}
use Rattle.play_core.proofs.step_line.read_step_line.Goals as goal

pub returns-in_default-clause-bad : goal.returns-in_default-clause-bad
returns-in_default-clause-bad g c = λ bad so.
    no_verb g.R.TextRecord.spelling c.args.line.now c.cut.result.0.now _
    (next_left c.args.line.now c.cut.result.0.now c.cut.result.1 c.cut.ensures.whole c.cut.ensures.first) c.in_default.ensures.unnamed so

pub returns-clause-bad : goal.returns-clause-bad
returns-clause-bad g c = λ bad so.
    no_words g.R.TextRecord.spelling c.args.line.now c.cut.result.0.now c.in-Some.verb _
    (next_left c.args.line.now c.cut.result.0.now c.cut.result.1 c.cut.ensures.whole c.cut.ensures.first) c.in-Some.ensures.named
    (c.read_words.ensures.bad bad) so
