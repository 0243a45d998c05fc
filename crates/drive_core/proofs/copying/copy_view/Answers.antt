use Rattle.std.proofs.Common.{◌∙◌, ap, sym, subst, ◌≡◌, Some, slice_get}
use Rattle.book_core.specs.Lists.{seat_pieces, IsSeatOf}
use Rattle.drive_core.proofs.Copies.{pieces_more}
use Rattle.drive_core.proofs.copying.copy_view.Goals as goal

pub piece_at-requires-clause-of : goal.piece_at-requires-clause-of
piece_at-requires-clause-of g c κs within = subst (λ (s : _). IsSeatOf c.args.live.now s) (sym c.loop-number.invariant.0) c.requires.of

pub loop-number-preserved : goal.loop-number-preserved
loop-number-preserved g c =
    let i = c.loop-number.invariant in
    let at : slice_get (seat_pieces c.args.live.now c.args.seat.now) c.loop-number.number ≡ Some c.in-Some.piece.now
    = ap (λ (s : _). slice_get (seat_pieces c.args.live.now s) c.loop-number.number) (sym i.0) ∙ c.in-Some.ensures.value in (
      c.piece_at.ensures.same ∙ i.0,
      c.in_ok-extend_from_slice.ensures.items ∙ pieces_more (seat_pieces c.args.live.now c.args.seat.now) c.loop-number.number c.in-Some.piece.now c.loop-number.records.items at i.1,
    )
