use Rattle.std.proofs.Common.{sym, subst}
use Rattle.text_core.specs.Halves.{HasNoColon}
use Rattle.follow_core.proofs.PlaceLemmas.{no_colon, no_number}
use Rattle.follow_core.proofs.place.number_before_colon.Goals as goal

pub returns-in-None-clause-refused : goal.returns-in-None-clause-refused
returns-in-None-clause-refused c = no_colon c.args.text.now (subst HasNoColon (sym (rw c.in-None.is at c.cut.ensures.whole)) c.cut.ensures.first)

pub returns-in-None-parse-clause-refused : goal.returns-in-None-parse-clause-refused
returns-in-None-parse-clause-refused c = no_number c.args.text.now c.cut.result.0.now c.in-Some.behind.now (rw c.in-Some.is at c.cut.ensures.whole) c.cut.ensures.first c.in-None-parse.ensures.refused
