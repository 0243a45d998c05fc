use Rattle.std.proofs.Common.{sym, subst}
use Rattle.serve_core.specs.Talks.{IsNextOf, IsOfRequest}
use Rattle.serve_core.proofs.talking.act.Goals as goal

pub returns-in_default-clause-told : goal.returns-in_default-clause-told
returns-in_default-clause-told g c =
    subst (λ block. IsOfRequest g.R.Record.form c.args.live.now c.args.request block c.args.seat.now c.tell.new.seat c.tell.result.0 c.tell.result.1.now) (sym c.requires.empty) c.tell.ensures.told

pub returns-in_default-clause-numbers : goal.returns-in_default-clause-numbers
returns-in_default-clause-numbers g c = subst (IsNextOf c.args.next.now) (sym c.tell.ensures.made) c.requires.numbers
