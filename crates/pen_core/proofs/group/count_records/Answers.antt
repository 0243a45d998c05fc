use Rattle.std.proofs.lemmas.Grind.{common_steps}
use Rattle.std.proofs.Common.{◌+◌, arith}
use Rattle.segment_core.proofs.Written.{records_more, records_within}
use Rattle.pen_core.proofs.group.count_records.Goals as goal

pub returns-then-records-total : goal.returns-then-records-total
returns-then-records-total g c =
    let growths = g.G.GrowthList.growths c.args.growths.now in
    let more = records_more growths c.loop-k.k c.growth.result.now c.growth.ensures in
    let within = records_within growths (c.loop-k.k + 1) in
    let so_far = c.loop-k.invariant.so_far in
    let small = c.loop-k.invariant.small in
    let past = c.if-records-total.true in
    omega arith

pub loop-k-preserved : goal.loop-k-preserved
loop-k-preserved g c =
    let growths = g.G.GrowthList.growths c.args.growths.now in
    let more = records_more growths c.loop-k.k c.growth.result.now c.growth.ensures in
    let so_far = c.loop-k.invariant.so_far in
    let small = c.loop-k.invariant.small in
    let few = c.if-records-total.false in
    record { so_far = omega arith; small = omega arith }

pub returns : goal.returns
returns g c = grind (arith, common_steps)
