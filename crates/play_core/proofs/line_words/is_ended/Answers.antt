use Rattle.play_core.proofs.LineWords.{ended_left}
use Rattle.play_core.proofs.line_words.is_ended.Goals as goal

pub returns : goal.returns
returns c = ended_left c.args.rest c.is_none.result c.is_none.ensures
