use Rattle.std.proofs.Common.{refl}
use Rattle.book_core.proofs.Steps.{learns-refl}
use Rattle.book_core.proofs.live.Live.grow.Goals as goal

pub returns-in_default-clause-list : goal.returns-in_default-clause-list
returns-in_default-clause-list g c = (refl, learns-refl c.args.seat.now)
