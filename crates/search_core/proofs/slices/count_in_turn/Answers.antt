use Rattle.std.proofs.Common.{◌+◌, ◌≤◌, ◌^◌, ◌∙◌, length, take, get_or, ap, rules, arith}
use Rattle.std.specs.List.{count_by}
use Rattle.std.proofs.lemmas.List.{take_more}
use Rattle.std.proofs.lemmas.List.Sums.{count_by-le-length}
use Rattle.search_core.specs.Search.{records_in}
use Rattle.search_core.proofs.Counts.{records_push}
use Rattle.search_core.proofs.Firsts.{at_slice_len, counts-append}
use Rattle.search_core.proofs.slices.count_in_turn.Goals as goal

pub count_in-count-requires-clause-few : goal.count_in-count-requires-clause-few
count_in-count-requires-clause-few g c κs within =
    let s = c.index-slices-k.result in
    omega (arith, at_slice_len c.args.slices.now c.loop-k.k s c.loop-k-test.true, ap (λ t. length t.now) c.index-slices-k.is, c.requires.few)

pub overflow_add-count : goal.overflow_add-count
overflow_add-count g c =
    let p = g.P.Pick.picks_of c.args.pick.now in
    let s = c.index-slices-k.result in
    let all : c.loop-k.count + c.count_in-count.result ≤ 2 ^ 32 = omega (
      arith,
      at_slice_len c.args.slices.now c.loop-k.k s c.loop-k-test.true,
      ap (λ t. length t.now) c.index-slices-k.is,
      c.requires.few,
      c.loop-k.invariant,
      c.count_in-count.ensures,
      count_by-le-length p (records_in (take c.loop-k.k c.args.slices.now)),
      count_by-le-length p s.now,
    ) in
    search rules

pub loop-k-preserved : goal.loop-k-preserved
loop-k-preserved g c =
    let p = g.P.Pick.picks_of c.args.pick.now in
    let s = c.index-slices-k.result in
    let k = c.loop-k.k in
    let more = ap records_in (take_more c.args.slices.now k s c.loop-k-test.true) ∙ records_push (take k c.args.slices.now) (get_or c.args.slices.now k s) in
    omega (
      arith,
      c.loop-k.invariant,
      c.count_in-count.ensures,
      ap (count_by p) more,
      counts-append p (records_in (take k c.args.slices.now)) (get_or c.args.slices.now k s).now,
      ap (λ t. count_by p t.now) c.index-slices-k.is,
    )
