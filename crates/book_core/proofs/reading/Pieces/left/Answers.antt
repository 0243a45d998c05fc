use Rattle.std.proofs.Common.{drop, arith}
use Rattle.std.proofs.lemmas.List.{length-drop}
use Rattle.book_core.specs.Lists.{seat_pieces}
use Rattle.book_core.proofs.PieceLists.{length-from_place}
use Rattle.book_core.proofs.reading.Pieces.left.Goals as goal

pub returns : goal.returns
returns g c =
    let p = c.args.self.now in
    let all = seat_pieces p.live.now p.seat.now in
    omega (arith, length-from_place p.place (drop p.next all), length-drop p.next all, p.counted)
