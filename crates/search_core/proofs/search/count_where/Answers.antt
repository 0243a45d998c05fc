use Rattle.std.proofs.Common.{◌+◌, ◌≤◌, ◌^◌, ◌++◌, ◌∷◌, [], length, ap, rules, arith}
use Rattle.std.proofs.lemmas.List.{length-append}
use Rattle.std.proofs.lemmas.List.Sums.{count_by-le-length}
use Rattle.search_core.specs.Search.{records_in}
use Rattle.search_core.proofs.Counts.{lent, lent_few, lent_counted, records_push}
use Rattle.search_core.proofs.search.count_where.Goals as goal

pub take_in-total-requires-clause-few : goal.take_in-total-requires-clause-few
take_in-total-requires-clause-few g c κs within =
    let i = c.loop-piece.invariant in
    let few =
    lent_few g.I.Iterator.next_gives (g.P.Pick.picks_of c.args.pick.now) c.args.pieces c.loop-piece.pieces c.next.new.self i.items c.in-Some.piece
    c.requires.few i.so_far c.in-Some.ensures.steps in
    let held = i.few in
    omega arith

pub loop-piece-preserved : goal.loop-piece-preserved
loop-piece-preserved g c =
    let i = c.loop-piece.invariant in
    let p = g.P.Pick.picks_of c.args.pick.now in
    let piece = c.in-Some.piece in
    let e = c.take_in-total.ensures in
    let more = lent_counted g.I.Iterator.next_gives p c.args.pieces c.loop-piece.pieces c.next.new.self i.items piece c.requires.few i.so_far c.in-Some.ensures.steps in
    let counted = i.counted in
    let held = i.few in
    let on = c.in-Some.ensures.goes.on i.finite in
    record {
      items = i.items ++ piece ∷ [];
      so_far = lent g.I.Iterator.next_gives p c.args.pieces c.loop-piece.pieces c.next.new.self i.items piece c.requires.few i.so_far c.in-Some.ensures.steps;
      counted = omega (arith, more, e.count);
      few = omega (arith, e.few, ap length (records_push i.items piece), length-append (records_in i.items) piece.now);
      can = on.0;
      finite = on.1;
    }

pub overflow_add-total : goal.overflow_add-total
overflow_add-total g c =
    let i = c.loop-piece.invariant in
    let p = g.P.Pick.picks_of c.args.pick.now in
    let piece = c.in-Some.piece in
    let few = lent_few g.I.Iterator.next_gives p c.args.pieces c.loop-piece.pieces c.next.new.self i.items piece c.requires.few i.so_far c.in-Some.ensures.steps in
    let counted = i.counted in
    let e = c.take_in-total.ensures in
    let all : c.loop-piece.total + c.take_in-total.result ≤ 2 ^ 32 = omega (arith, few, e.count, count_by-le-length p (records_in i.items), count_by-le-length p piece.now) in
    search rules

pub take_count-requires-clause-few : goal.take_count-requires-clause-few
take_count-requires-clause-few g c κs within =
    let i = c.loop-piece.invariant in (omega arith, omega (arith, i.few, c.requires.few i.items c.loop-piece.pieces i.so_far))

pub overflow_add-result : goal.overflow_add-result
overflow_add-result g c =
    let i = c.loop-piece.invariant in
    let counted = count_by-le-length (g.P.Pick.picks_of c.args.pick.now) (records_in i.items) in
    let all : c.loop-piece.total + c.take_count.result ≤ 2 ^ 32 = omega (arith, i.counted, c.take_count.ensures.count, counted, c.requires.few i.items c.loop-piece.pieces i.so_far) in
    search rules

pub returns : goal.returns
returns g c =
    let i = c.loop-piece.invariant in (
      i.items,
      (c.next.new.self, (c.loop-piece.pieces, i.so_far, c.in_default.ensures.steps)),
      omega (arith, i.counted, c.take_count.ensures.count),
    )
