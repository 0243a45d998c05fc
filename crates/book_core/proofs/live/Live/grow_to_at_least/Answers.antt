use Rattle.book_core.proofs.Steps.{learns-refl}
use Rattle.book_core.proofs.live.Live.grow_to_at_least.Goals as goal

pub returns-in_default-clause-list : goal.returns-in_default-clause-list
returns-in_default-clause-list g c = learns-refl c.args.seat.now
