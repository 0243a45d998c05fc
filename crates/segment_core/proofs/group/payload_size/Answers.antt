use Rattle.std.proofs.Common.{◌*◌, ◌≤◌, length, ap, ◌∙◌, arith}
use Rattle.std.proofs.lemmas.List.{take_all}
use Rattle.segment_core.specs.Written.{payload_len}
use Rattle.segment_core.proofs.Written.{payload_len_more, growth_within, long_growth}
use Rattle.segment_core.proofs.group.payload_size.Goals as goal

pub returns-then-records-limit : goal.returns-then-records-limit
returns-then-records-limit g c =
    let laws = g.met.R.Record g.world.𝓛 g.world.𝓜 g.world.𝓡 ((λ s x. x), (λ x. x), (λ x. x), λ x. x) in
    let within = growth_within g.R.Record.form.width (g.G.GrowthList.growths c.args.group.now) c.loop-k.k c.growth-records.result.now c.growth-records.ensures in
    let long = long_growth g.R.Record.form.width (length c.growth-records.result.now) laws.width_in_range.0 in
    let past = c.if-records-limit.true in
    omega arith

pub returns-then-len-limit : goal.returns-then-len-limit
returns-then-len-limit g c =
    let within = growth_within g.R.Record.form.width (g.G.GrowthList.growths c.args.group.now) c.loop-k.k c.growth-records.result.now c.growth-records.ensures in
    let product = ap (λ w. length c.growth-records.result.now * w) c.width_of-width.ensures.is in
    let so_far = c.loop-k.invariant.so_far in
    let past = c.if-len-limit.true in
    omega arith

pub loop-k-preserved : goal.loop-k-preserved
loop-k-preserved g c =
    let more = payload_len_more g.R.Record.form.width (g.G.GrowthList.growths c.args.group.now) c.loop-k.k c.growth-records.result.now c.growth-records.ensures in
    let product = ap (λ w. length c.growth-records.result.now * w) c.width_of-width.ensures.is in
    let so_far = c.loop-k.invariant.so_far in
    record { so_far = omega arith; small = c.if-len-limit.false }

pub returns : goal.returns
returns g c =
    let growths = g.G.GrowthList.growths c.args.group.now in
    let past : length growths ≤ c.loop-k.k = omega (arith, c.count-k-end.ensures, c.loop-k-test.false) in
    (c.loop-k.invariant.so_far ∙ ap (payload_len g.R.Record.form.width) (take_all c.loop-k.k growths past), c.loop-k.invariant.small)
