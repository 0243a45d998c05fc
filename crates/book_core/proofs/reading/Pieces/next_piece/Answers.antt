use Rattle.std.proofs.Common.{◌+◌, ◌∷◌, drop, ap, sym, ◌∙◌, length, subst, arith}
use Rattle.std.proofs.lemmas.List.{take_rest}
use Rattle.book_core.specs.Lists.{seat_pieces, Seated, IsSeatOf}
use Rattle.book_core.specs.Pieces.{from_place}
use Rattle.book_core.proofs.PieceLists.{next_from}
use Rattle.std.proofs.lemmas.Option.{slice_get_within}
use Rattle.book_core.proofs.reading.Pieces.next_piece.Goals as goal

pub returns-clause-next : goal.returns-clause-next
returns-clause-next g c =
    let p = c.args.self.now in
    let piece = c.in_ok-piece.piece.now in
    rw (take_rest piece p.place) (
    next_from (seat_pieces p.live.now p.seat.now) p.next p.place piece c.in_ok-piece.ensures.value
    ∙ ap (λ seat. drop p.place piece ∷ from_place 0 (drop (p.next + 1) (seat_pieces p.live.now seat))) (sym c.in_ok-piece.ensures.same))

pub invariant_of-self-2 : goal.invariant_of-self-2
invariant_of-self-2 g c =
    let p = c.args.self.now in
    let same = c.in_ok-piece.ensures.same in
    let pieces = ap (λ (s : Seated _). length (seat_pieces p.live.now s)) same in
    let there = slice_get_within (seat_pieces p.live.now p.seat.now) p.next c.in_ok-piece.piece.now c.in_ok-piece.ensures.value in
    let counted = p.counted in
    record {
      of = subst (λ (s : Seated _). IsSeatOf p.live.now s) (sym same) p.of;
      counted = omega arith;
      inside = omega arith;
      placed = λ piece at. omega arith;
    }

pub overflow_add-self : goal.overflow_add-self
overflow_add-self g c =
    let p = c.args.self.now in
    let there = slice_get_within (seat_pieces p.live.now p.seat.now) p.next c.in_ok-piece.piece.now c.in_ok-piece.ensures.value in
    let counted = p.counted in
    let fits = c.fits-self in
    omega arith
