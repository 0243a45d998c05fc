use Rattle.play_core.proofs.Verbs.{no_verb_among}
use Rattle.play_core.proofs.verb.verb_of.Goals as goal

pub returns-clause-unnamed : goal.returns-clause-unnamed
returns-clause-unnamed c = no_verb_among c.args.word.now c.verb_among.result c.verb_among.ensures.unnamed
