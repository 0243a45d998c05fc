use Rattle.std.proofs.Common.{◌+◌, ◌≤◌, ◌^◌, ◌∙◌, Some, length, take, get_or, ap, sym, subst, rules, arith}
use Rattle.std.specs.List.{count_by}
use Rattle.std.proofs.lemmas.List.{take_more, length-append}
use Rattle.search_core.specs.Search.{records_in, IsFirst}
use Rattle.search_core.proofs.Counts.{records_push, found_within}
use Rattle.search_core.proofs.Firsts.{at_slice_len, counts-append, first_of_slices}
use Rattle.search_core.proofs.slices.first_in_turn.Goals as goal

pub find_by_blocks-requires-clause-few : goal.find_by_blocks-requires-clause-few
find_by_blocks-requires-clause-few g c κs within =
    let s = c.index-slices-k.result in
    omega (arith, at_slice_len c.args.slices.now c.loop-k.k s c.loop-k-test.true, ap (λ t. length t.now) c.index-slices-k.is, c.requires.few)

pub overflow_add-result : goal.overflow_add-result
overflow_add-result g c =
    let p = g.P.Pick.picks_of c.args.pick.now in
    let s = c.index-slices-k.result in
    let within = found_within p s.now c.in-Some.place c.in-Some.ensures.1 in
    let all : c.loop-k.before + c.in-Some.place ≤ 2 ^ 32 = omega (
      arith,
      within,
      c.loop-k.invariant.len,
      at_slice_len c.args.slices.now c.loop-k.k s c.loop-k-test.true,
      ap (λ t. length t.now) c.index-slices-k.is,
      c.requires.few,
    ) in
    search rules

pub returns-in-Some : goal.returns-in-Some
returns-in-Some g c =
    let p = g.P.Pick.picks_of c.args.pick.now in
    let s = c.index-slices-k.result in
    let i = c.loop-k.invariant in
    let here = subst (λ t. IsFirst p t.now (Some c.in-Some.place)) c.index-slices-k.is c.in-Some.ensures in
    subst (λ n. IsFirst p (records_in c.args.slices.now) (Some (n + c.in-Some.place))) (sym i.len)
    (first_of_slices p c.args.slices.now c.loop-k.k s c.in-Some.place c.loop-k-test.true i.none here)

pub overflow_add-before : goal.overflow_add-before
overflow_add-before g c =
    let s = c.index-slices-k.result in
    let all : c.loop-k.before + length s.now ≤ 2 ^ 32 = omega (
      arith,
      c.loop-k.invariant.len,
      at_slice_len c.args.slices.now c.loop-k.k s c.loop-k-test.true,
      ap (λ t. length t.now) c.index-slices-k.is,
      c.requires.few,
    ) in
    search rules

pub loop-k-preserved : goal.loop-k-preserved
loop-k-preserved g c =
    let p = g.P.Pick.picks_of c.args.pick.now in
    let s = c.index-slices-k.result in
    let k = c.loop-k.k in
    let front = records_in (take k c.args.slices.now) in
    let here = get_or c.args.slices.now k s in
    let more = ap records_in (take_more c.args.slices.now k s c.loop-k-test.true) ∙ records_push (take k c.args.slices.now) here in
    record {
      none = omega (
        arith,
        c.loop-k.invariant.none,
        c.in_default.ensures,
        ap (count_by p) more,
        counts-append p front here.now,
        ap (λ t. count_by p t.now) c.index-slices-k.is,
      );
      len = omega (arith, c.loop-k.invariant.len, ap length more, length-append front here.now, ap (λ t. length t.now) c.index-slices-k.is);
    }
