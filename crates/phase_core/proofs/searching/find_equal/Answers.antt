use Rattle.std.proofs.Common.{◌≡◌, ◌+◌, ◌<◌, ◌≤◌, ◌^◌, ◌∷◌, length, drop, inl, inr, sym, ap, ◌∙◌, rules, arith}
use Rattle.book_core.specs.Lists.{joined_pieces, seat_list}
use Rattle.book_core.specs.Pieces.{pieces_left}
use Rattle.phase_core.proofs.PieceLemmas.{none_left, left_behind, length-piece, end-piece, place-piece, slice_get-piece, none_in_piece}
use Rattle.phase_core.proofs.searching.find_equal.Given.{Over}
use Rattle.phase_core.proofs.searching.find_equal.Goals.{In-Some}
use Rattle.phase_core.proofs.searching.find_equal.Goals as goal

ahead : (g : Over) (c : In-Some g) → joined_pieces (c.in-Some.piece.now ∷ pieces_left c.next_piece.new.self) ≡ drop c.loop-piece.at (seat_list c.args.live.now c.args.seat.now)
ahead g c = ap joined_pieces (sym c.in-Some.ensures.next) ∙ c.loop-piece.invariant.left

pub place_in-place-requires-clause-few : goal.place_in-place-requires-clause-few
place_in-place-requires-clause-few g c κs within =
    let list = seat_list c.args.live.now c.args.seat.now in
    omega (arith, length-piece list c.loop-piece.at c.in-Some.piece.now (pieces_left c.next_piece.new.self) (ahead g c), c.size-size.ensures.is, c.size-size.ensures.in_limit)

pub overflow_add-at : goal.overflow_add-at
overflow_add-at g c =
    let list = seat_list c.args.live.now c.args.seat.now in
    let found = c.place_in-place.ensures in
    elim (place-piece list c.loop-piece.at c.in-Some.piece.now (pieces_left c.next_piece.new.self) (ahead g (goal.at.overflow_add-at g c).In-Some) c.place_in-place.result found.within) [
      | inl none ↦ search rules
      | inr inside ↦ let few : c.loop-piece.at + c.place_in-place.result ≤ 2 ^ 32 = omega (arith, inside, c.size-size.ensures.is, c.size-size.ensures.in_limit) in search rules
    ]

pub returns-then-place-piece-clause-found : goal.returns-then-place-piece-clause-found
returns-then-place-piece-clause-found g c =
    let list = seat_list c.args.live.now c.args.seat.now in
    let at = c.loop-piece.at in
    let piece = c.in-Some.piece.now in
    let more = pieces_left c.next_piece.new.self in
    let is = ahead g (goal.at.returns-then-place-piece-clause-found g c).In-Some in
    let found = c.place_in-place.ensures in
    let behind = c.loop-piece.invariant.behind in
    let inside : c.place_in-place.result < length piece = search rules in
    let long = end-piece list at piece more is (omega (arith, inside)) in
    record {
      within = omega (arith, inside, long);
      here = λ lt. (omega (arith, behind), slice_get-piece list at piece more is c.place_in-place.result inside ∙ (found.here inside).1);
      first = none_in_piece list at piece more is c.args.sought c.args.from c.place_in-place.result c.loop-piece.invariant.none found;
    }

pub loop-piece-preserved : goal.loop-piece-preserved
loop-piece-preserved g c =
    let list = seat_list c.args.live.now c.args.seat.now in
    let at = c.loop-piece.at in
    let piece = c.in-Some.piece.now in
    let more = pieces_left c.next_piece.new.self in
    let is = ahead g (goal.at.loop-piece-preserved g c).In-Some in
    let found = c.place_in-place.ensures in
    let behind = c.loop-piece.invariant.behind in
    let all : length piece ≡ c.place_in-place.result = search rules in
    record {
      name = c.in-Some.ensures.seat.0 ∙ c.loop-piece.invariant.name;
      same = c.in-Some.ensures.seat.1 ∙ c.loop-piece.invariant.same;
      left = left_behind list at piece more is ∙ ap (λ n. drop (at + n) list) all;
      behind = omega (arith, behind);
      none = none_in_piece list at piece more is c.args.sought c.args.from c.place_in-place.result c.loop-piece.invariant.none found;
    }

pub returns-clause-found : goal.returns-clause-found
returns-clause-found g c =
    let list = seat_list c.args.live.now c.args.seat.now in
    let past = none_left list c.loop-piece.at (ap joined_pieces (sym c.in_default.ensures.next.0) ∙ c.loop-piece.invariant.left) in
    let size = c.size-size.ensures.is in
    record {
      within = omega (arith, size);
      here = λ inside. absurd (omega (arith, inside, size));
      first = λ k from below. c.loop-piece.invariant.none k from (omega (arith, below, past, size));
    }
