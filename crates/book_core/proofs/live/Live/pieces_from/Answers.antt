use Rattle.book_core.specs.Lists.{seat_pieces, seat_list}
use Rattle.book_core.proofs.PieceLists.{left_from}
use Rattle.book_core.proofs.live.Live.pieces_from.Goals as goal

pub returns-clause-list : goal.returns-clause-list
returns-clause-list g c =
    let live = c.args.self.now in
    let seat = c.args.seat.now in
    rw c.unwrap_or-next.ensures
    (left_from (seat_pieces live seat) (seat_list live seat) c.args.i c.piece_count-count.result c.find.result
    c.piece_count-count.ensures.joined c.piece_count-count.ensures.count c.find.ensures)
