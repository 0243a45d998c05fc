use Rattle.book_core.specs.Lists.{IsSeatOf}
use Rattle.call_tests.proofs.Seats.{all-pop}
use Rattle.call_tests.proofs.tests.broken_crew.take_seat.Goals as goal

pub returns-clause-rest : goal.returns-clause-rest
returns-clause-rest c = (all-pop (IsSeatOf c.args.live.now) c.args.seats.now.items c.pop.new.self.items c.pop.result c.requires c.pop.ensures.items).0

pub returns-clause-seat : goal.returns-clause-seat
returns-clause-seat c = (all-pop (IsSeatOf c.args.live.now) c.args.seats.now.items c.pop.new.self.items c.pop.result c.requires c.pop.ensures.items).1
