use Rattle.std.proofs.Common.{subst}
use Rattle.directory_core.specs.Chain.{IsLongerOf}
use Rattle.directory_core.specs.Known.{Known}
use Rattle.book_core.proofs.live.Live.take_in.Goals as goal

pub returns-clause-meets : goal.returns-clause-meets
returns-clause-meets g c =
    subst (λ (p : Known g.row.R.Denot). IsLongerOf c.args.pass.now.entries p.entries c.meet.new.self.entries) c.into_parts-known.ensures.0 c.meet.ensures.meets
