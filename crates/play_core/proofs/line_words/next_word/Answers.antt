use Rattle.std.proofs.Common.{ap, ◌∙◌}
use Rattle.play_core.specs.LineWords.{words_left}
use Rattle.play_core.proofs.LineWords.{next_left}
use Rattle.play_core.proofs.line_words.next_word.Goals as goal

pub returns-clause-found : goal.returns-clause-found
returns-clause-found c = ap words_left c.in_ok-rest.was ∙ next_left c.in_ok-rest.field-0.now c.cut.result.0.now c.cut.result.1 c.cut.ensures.whole c.cut.ensures.first
