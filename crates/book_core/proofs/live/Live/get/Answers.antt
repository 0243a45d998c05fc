use Rattle.std.proofs.Common.{arith}
use Rattle.directory_core.proofs.Readings.{piece_first}
use Rattle.book_core.specs.Lists.{seat_list}
use Rattle.book_core.proofs.live.Live.get.Goals as goal

pub bounds-piece-0 : goal.bounds-piece-0
bounds-piece-0 g c = let some = c.in_ok-piece.ensures.in_order.some in omega arith

pub returns-clause-value : goal.returns-clause-value
returns-clause-value g c =
    let lent = c.in_ok-piece.ensures.in_order in
    piece_first (seat_list c.args.self.now c.args.seat.now) c.in_ok-piece.piece.now c.args.i c.index-piece-0.result lent.some lent.is c.index-piece-0.is
