use Rattle.std.proofs.Common.{◌+◌, ◌≤◌, ◌<◌, ◌^◌, ◌∙◌, length, take, get_or, ap, rules, arith}
use Rattle.std.proofs.lemmas.List.{take_more, length-append}
use Rattle.search_core.specs.Search.{records_in}
use Rattle.search_core.proofs.Counts.{records_push}
use Rattle.search_core.proofs.Firsts.{at_slice_len}
use Rattle.search_core.proofs.slices.middle.Goals as goal

pub overflow_add-len : goal.overflow_add-len
overflow_add-len g c =
    let s = c.index-slices-k.result in
    let lt : c.loop-k.k < length c.args.slices.now = search rules in
    let all : c.loop-k.len + length (get_or c.args.slices.now c.loop-k.k s).now ≤ 2 ^ 32 = omega (arith, at_slice_len c.args.slices.now c.loop-k.k s lt, c.requires.few, c.loop-k.invariant) in
    search rules

pub loop-k-preserved : goal.loop-k-preserved
loop-k-preserved g c =
    let s = c.index-slices-k.result in
    let k = c.loop-k.k in
    let lt : k < length c.args.slices.now = search rules in
    let more = ap records_in (take_more c.args.slices.now k s lt) ∙ records_push (take k c.args.slices.now) (get_or c.args.slices.now k s) in
    omega (arith, c.loop-k.invariant, ap length more, length-append (records_in (take k c.args.slices.now)) (get_or c.args.slices.now k s).now)
