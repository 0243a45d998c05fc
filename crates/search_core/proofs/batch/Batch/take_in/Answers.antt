use Rattle.std.proofs.Common.{◌≡◌, ◌+◌, ◌≤◌, ◌^◌, ◌++◌, length, ap, rules, arith}
use Rattle.std.specs.List.{count_by}
use Rattle.std.proofs.lemmas.List.{length-append}
use Rattle.std.proofs.lemmas.List.Sums.{count_by-le-length}
use Rattle.search_core.proofs.Counts.{count_by-append, none_left}
use Rattle.search_core.proofs.batch.Batch.take_in.Goals as goal

pub overflow_add-count : goal.overflow_add-count
overflow_add-count g c =
    let p = g.P.Pick.picks_of c.args.pick.now in
    let counted = c.loop-rest.invariant.counted in
    let made = c.make_room-count.ensures.count in
    let few = c.requires.few in
    let all : c.loop-rest.count + c.make_room-count.result ≤ 2 ^ 32 =
    omega (arith, counted, made, few, count_by-le-length p c.args.self.now.1, count_by-le-length p c.args.piece.now) in
    search rules

pub loop-rest-preserved : goal.loop-rest-preserved
loop-rest-preserved g c =
    let p = g.P.Pick.picks_of c.args.pick.now in
    let i = c.loop-rest.invariant in
    let front = c.split_at.result.0.now in
    let back = c.split_at.result.1.now in
    let mid = c.make_room-count.new.self.1 in
    let cut : c.loop-rest.rest.now ≡ front ++ back = search rules in
    let pushed = ap (λ q. q.1) c.push.ensures in
    let counted = i.counted in
    let few = i.few in
    let e = c.make_room-count.ensures in
    let made = e.count in
    let less = e.few in
    record {
      counted = omega (arith, counted, made, ap (count_by p) cut, count_by-append p front back, ap (count_by p) pushed, count_by-append p mid front);
      few = omega (arith, few, less, ap length cut, length-append front back, ap length pushed, length-append mid front);
    }

pub returns-clause-count : goal.returns-clause-count
returns-clause-count g c =
    let i = c.loop-rest.invariant in
    omega (arith, i.counted, none_left (length c.loop-rest.rest.now) c.loop-rest-test.ensures, count_by-le-length (g.P.Pick.picks_of c.args.pick.now) c.loop-rest.rest.now)
