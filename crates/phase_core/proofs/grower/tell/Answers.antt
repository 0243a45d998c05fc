use Rattle.std.proofs.Common.{◌≡◌, ◌+◌, ◌<◌, ◌≤◌, ◌^◌, ◌∷◌, length, drop, sym, ap, subst, ◌∙◌, rules, arith}
use Rattle.std.proofs.lemmas.List.{length-set}
use Rattle.book_core.specs.Lists.{joined_pieces, seat_list}
use Rattle.book_core.specs.Pieces.{pieces_left}
use Rattle.phase_core.specs.Telling.{TellsAt}
use Rattle.phase_core.proofs.PieceLemmas.{none_left, stands, left_behind, end-piece}
use Rattle.phase_core.proofs.TellLemmas.{behind_more, told_set, told_len_set}
use Rattle.phase_core.proofs.grower.tell.Given.{Over}
use Rattle.phase_core.proofs.grower.tell.Goals.{In-Some}
use Rattle.phase_core.proofs.grower.tell.Goals as goal

ahead : (g : Over) (c : In-Some g) → joined_pieces (c.in-Some.records.now ∷ pieces_left c.next_piece.new.self) ≡ drop c.loop-count.at (seat_list c.args.live.now c.args.seat.now)
ahead g c = ap joined_pieces (sym c.in-Some.ensures.next) ∙ c.loop-count.invariant.left

pub overflow_add-at : goal.overflow_add-at
overflow_add-at g c =
    let list = seat_list c.args.live.now c.args.seat.now in
    let some : 0 < length c.in-Some.records.now = search rules in
    let few : c.loop-count.at + length c.in-Some.records.now ≤ 2 ^ 32 =
    omega (arith, end-piece list c.loop-count.at c.in-Some.records.now (pieces_left c.next_piece.new.self) (ahead g (goal.at.overflow_add-at g c).In-Some) some, c.size-size.ensures.is, c.size-size.ensures.in_limit) in
    search rules

pub loop-count-preserved-then-not-is_empty : goal.loop-count-preserved-then-not-is_empty
loop-count-preserved-then-not-is_empty g c =
    let list = seat_list c.args.live.now c.args.seat.now in
    let out = c.loop-count.out in
    let k = c.loop-count.count in
    let at = c.loop-count.at in
    let records = c.in-Some.records.now in
    let more = pieces_left c.next_piece.new.self in
    let told = c.of.result in
    let so = c.loop-count.invariant in
    let room : k < length out = c.loop-count-test.true in
    let some : 0 < length records = search rules in
    let is = ahead g (goal.at.loop-count-preserved-then-not-is_empty g c).In-Some in
    let one : TellsAt list at told = record { lent = c.in-Some.records; of = c.of.ensures; stand = stands list at records more is some } in
    record {
      name = c.in-Some.ensures.seat.0 ∙ so.name;
      same = c.in-Some.ensures.seat.1 ∙ so.same;
      left = left_behind list at records more is;
      inside = (omega (arith, room, so.inside.1), length-set out k told ∙ so.inside.1);
      told = told_set list c.args.from k out told room so.told (subst (λ n. TellsAt list n told) so.up_to one);
      up_to = omega (arith, so.up_to, told_len_set list k out told room, c.of.ensures.len_is);
      behind = behind_more out c.args.out.now k told so.behind;
    }

pub returns-in_default-clause-told : goal.returns-in_default-clause-told
returns-in_default-clause-told g c =
    let list = seat_list c.args.live.now c.args.seat.now in
    let so = c.loop-count.invariant in
    let past = none_left list c.loop-count.at (ap joined_pieces (sym c.in_default.ensures.next.0) ∙ so.left) in
    record { inside = so.inside; told = so.told; behind = so.behind; all = λ fewer. omega (arith, past, so.up_to) }
