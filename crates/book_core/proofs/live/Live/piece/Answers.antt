use Rattle.std.proofs.Common.{sym, ◌∙◌}
use Rattle.std.proofs.lemmas.Option.{same_Some}
use Rattle.book_core.specs.Lists.{seat_pieces}
use Rattle.book_core.proofs.PieceLists.{growths_rest}
use Rattle.book_core.proofs.Slices.{rest_is}
use Rattle.book_core.proofs.live.Live.piece.Goals as goal

pub returns-clause-value : goal.returns-clause-value
returns-clause-value g c =
    let here = c.in_ok-number.ensures in
    let piece = c.in_ok-piece.piece.now in
    let same = same_Some piece here.piece (sym c.in_ok-piece.ensures.value ∙ here.at) in
    rest_is (seat_pieces c.args.self.now c.args.seat.now) c.args.i c.in_ok-number.number c.in_ok-number.place piece here same

pub returns-clause-in_order : goal.returns-clause-in_order
returns-clause-in_order g c = growths_rest _ c.args.seat.now.pass.entries c.args.i _ (returns-clause-value g c)
