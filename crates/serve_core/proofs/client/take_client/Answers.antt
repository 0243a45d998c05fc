use Rattle.std.proofs.Common.{Some}
use Rattle.book_core.proofs.Owns.{seats-pop}
use Rattle.serve_core.proofs.client.take_client.Goals as goal

pub returns-clause-rest : goal.returns-clause-rest
returns-clause-rest g c =
    let live = c.args.live.now in
    (seats-pop live.directory live.mark c.args.seats.now.items c.take_last-seat.new.self.items (Some c.take_last-seat.result) c.requires.new c.take_last-seat.ensures.items).0

pub returns-clause-new : goal.returns-clause-new
returns-clause-new g c =
    let live = c.args.live.now in
    (seats-pop live.directory live.mark c.args.seats.now.items c.take_last-seat.new.self.items (Some c.take_last-seat.result) c.requires.new c.take_last-seat.ensures.items).1
