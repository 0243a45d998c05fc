use Rattle.std.proofs.Common.{◌≡◌, ◌+◌, ◌≤◌, ◌^◌, ◌++◌, ◌∷◌, [], length, refl, ap, rules, arith}
use Rattle.std.proofs.Crossing.{crosses}
use denote.Param.Send.{sendable}
use Rattle.std.proofs.lemmas.List.{length-append}
use Rattle.search_core.specs.Search.{records_in}
use Rattle.search_core.proofs.Counts.{few_after, all_after, found_within}
use Rattle.search_core.proofs.Firsts.{first_in_front, none_after_front, first_after_front}
use Rattle.search_core.proofs.search.find_first.Goals as goal

pub returns-in-Some-find_in : goal.returns-in-Some-find_in
returns-in-Some-find_in g c =
    let piece = c.in-Some.piece in
    let cut = c.split_at in (
      piece ∷ [],
      (c.next.new.self, (c.next.new.self, c.in-Some.ensures.steps, refl)),
      first_in_front (g.P.Pick.picks_of c.args.pick.now) piece cut.result.0.now cut.result.1.now (search rules) c.in-Some-find_in.place c.in-Some-find_in.ensures,
    )

pub find_in_batches-requires : goal.find_in_batches-requires
find_in_batches-requires g c κs =
    let on = c.in-Some.ensures.goes.on c.requires.finite in
    let few =
    few_after g.I.Iterator.next_gives c.args.pieces c.next.new.self c.in-Some.piece c.split_at.result.1.now c.requires.few c.in-Some.ensures.steps (search rules) in
    (search (sendable, crosses) depth 20, (search (sendable, crosses) depth 20, (search (sendable, crosses) depth 20, ((refl, tt), (on.0, (on.1, few))))))

pub returns-in-Some-find_in_batches : goal.returns-in-Some-find_in_batches
returns-in-Some-find_in_batches g c =
    let piece = c.in-Some.piece in
    let cut = c.split_at in
    let e = c.in-Some-find_in_batches.ensures in (
      piece ∷ e.0,
      (e.1.0, (c.next.new.self, c.in-Some.ensures.steps, e.1.1)),
      first_after_front (g.P.Pick.picks_of c.args.pick.now) piece cut.result.0.now cut.result.1.now (search rules) e.0 c.in-Some-find_in_batches.place c.in_default-find_in.ensures e.2,
    )

pub returns-in-None : goal.returns-in-None
returns-in-None g c =
    let piece = c.in-Some.piece in
    let cut = c.split_at in
    let e = c.in-None.ensures in (
      piece ∷ e.0,
      all_after g.I.Iterator.next_gives c.args.pieces c.next.new.self piece e.0 c.in-Some.ensures.steps e.1,
      none_after_front (g.P.Pick.picks_of c.args.pick.now) piece cut.result.0.now cut.result.1.now (search rules) e.0 c.in_default-find_in.ensures e.2,
    )

pub overflow_add-result : goal.overflow_add-result
overflow_add-result g c =
    let p = g.P.Pick.picks_of c.args.pick.now in
    let piece = c.in-Some.piece in
    let front = c.split_at.result.0.now in
    let rest = c.split_at.result.1.now in
    let e = c.in-Some-find_in_batches.ensures in
    let cut : piece.now ≡ front ++ rest = search rules in
    let all : length front + c.in-Some-find_in_batches.place ≤ 2 ^ 32 = omega (
      arith,
      c.requires.few (piece ∷ e.0) e.1.0 (c.next.new.self, c.in-Some.ensures.steps, e.1.1),
      length-append piece.now (records_in e.0),
      ap length cut,
      length-append front rest,
      length-append rest (records_in e.0),
      found_within p (rest ++ records_in e.0) c.in-Some-find_in_batches.place e.2.1,
    ) in
    search rules
