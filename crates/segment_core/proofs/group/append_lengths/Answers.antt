use Rattle.std.proofs.lemmas.Grind.{common_steps}
use Rattle.std.proofs.Common.{List, ℕ, ◌++◌, length, map, take, ap, sym, ◌∙◌, append_assoc, arith}
use Rattle.std.specs.List.{flat_map}
use Rattle.std.specs.Int.{w32, to_le_bytes}
use Rattle.segment_core.proofs.Written.{growth_within, long_growth, take_more, lengths_push}
use Rattle.segment_core.proofs.group.append_lengths.Goals as goal

pub overflow_cast-growth : goal.overflow_cast-growth
overflow_cast-growth g c =
    let laws = g.met.R.Record g.world.𝓛 g.world.𝓜 g.world.𝓡 ((λ s x. x), (λ x. x), (λ x. x), λ x. x) in
    let within = growth_within g.R.Record.form.width (g.G.GrowthList.growths c.args.group.now) c.loop-k.k c.growth.result.now c.growth.ensures in
    let long = long_growth g.R.Record.form.width (length c.growth.result.now) laws.width_in_range.0 in
    let fits = c.requires in
    omega arith

pub loop-k-preserved : goal.loop-k-preserved
loop-k-preserved g c =
    let growths = g.G.GrowthList.growths c.args.group.now in
    let before = take c.loop-k.k growths in
    let more = take_more growths c.loop-k.k c.growth.result.now c.growth.ensures in
    rw more
    (c.in_ok-extend_from_slice.ensures.items
    ∙ ap (λ (bs : List ℕ). c.loop-k.file.items ++ bs) c.to_le_bytes.ensures
    ∙ ap (λ (bs : List ℕ). bs ++ to_le_bytes w32 (length c.growth.result.now)) c.loop-k.invariant
    ∙ append_assoc c.args.file.now.items (flat_map (to_le_bytes w32) (map length before)) (to_le_bytes w32 (length c.growth.result.now))
    ∙ ap (λ (bs : List ℕ). c.args.file.now.items ++ bs) (sym (lengths_push before c.growth.result.now)))

pub returns : goal.returns
returns g c = grind (arith, common_steps)
