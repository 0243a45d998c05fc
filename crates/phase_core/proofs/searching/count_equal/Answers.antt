use Rattle.std.proofs.Common.{◌≡◌, ◌+◌, ◌≤◌, ◌^◌, cond, List, length, ap, ◌∙◌, rules, arith}
use Rattle.std.specs.List.{count_by}
use Rattle.std.proofs.lemmas.List.{length-append}
use Rattle.std.proofs.lemmas.List.Sums.{count_by-le-length, sum_by-append}
use Rattle.book_core.specs.Lists.{joined_pieces, seat_list}
use Rattle.book_core.specs.Pieces.{pieces_left}
use Rattle.phase_core.specs.Grower.{equals}
use Rattle.phase_core.proofs.searching.count_equal.Given.{Over}
use Rattle.phase_core.proofs.searching.count_equal.Goals.{In-Some, After-count_in-count}
use Rattle.phase_core.proofs.searching.count_equal.Goals as goal

-- the piece and what is left behind it have no more than was left
parts : (g : Over) (c : In-Some g) → length (joined_pieces (pieces_left c.loop-piece.left)) ≡ length c.in-Some.piece.now + length (joined_pieces (pieces_left c.next_piece.new.self))
parts g c =
    let behind = joined_pieces (pieces_left c.next_piece.new.self) in
    omega (arith, ap (λ (ps : List (List _)). length (joined_pieces ps)) c.in-Some.ensures.next, length-append c.in-Some.piece.now behind)

counts : (g : Over) (c : After-count_in-count g) → (c.loop-piece.count + c.count_in-count.result) + count_by (equals g.R.PartialEq.eq c.args.sought) (joined_pieces (pieces_left c.next_piece.new.self))
    ≡ count_by (equals g.R.PartialEq.eq c.args.sought) (seat_list c.args.live.now c.args.seat.now)
counts g c =
    let p = equals g.R.PartialEq.eq c.args.sought in
    let behind = joined_pieces (pieces_left c.next_piece.new.self) in
    omega (
      arith,
      c.loop-piece.invariant.counted,
      c.count_in-count.ensures,
      ap (λ (ps : List (List _)). count_by p (joined_pieces ps)) c.in-Some.ensures.next,
      sum_by-append (λ x. cond (p x) 1 0) c.in-Some.piece.now behind,
    )

pub count_in-count-requires-clause-few : goal.count_in-count-requires-clause-few
count_in-count-requires-clause-few g c κs within = omega (arith, parts g c, c.loop-piece.invariant.few, c.size-size.ensures.is, c.size-size.ensures.in_limit)

pub overflow_add-count : goal.overflow_add-count
overflow_add-count g c =
    let p = equals g.R.PartialEq.eq c.args.sought in
    let list = seat_list c.args.live.now c.args.seat.now in
    let all : c.loop-piece.count + c.count_in-count.result ≤ 2 ^ 32 =
    omega (arith, counts g (goal.at.overflow_add-count g c).After-count_in-count, count_by-le-length p list, c.size-size.ensures.is, c.size-size.ensures.in_limit) in
    search rules

pub loop-piece-preserved : goal.loop-piece-preserved
loop-piece-preserved g c = record {
  name = c.in-Some.ensures.seat.0 ∙ c.loop-piece.invariant.name;
  same = c.in-Some.ensures.seat.1 ∙ c.loop-piece.invariant.same;
  few = omega (arith, parts g (goal.at.loop-piece-preserved g c).In-Some, c.loop-piece.invariant.few);
  counted = counts g (goal.at.loop-piece-preserved g c).After-count_in-count;
}
