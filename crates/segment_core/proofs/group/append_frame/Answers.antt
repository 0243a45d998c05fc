use Rattle.std.proofs.Common.{ℕ, List, ◌++◌, ap, ◌∙◌}
use Rattle.std.proofs.lemmas.Result.{on_ok_weaker}
use Rattle.segment_core.proofs.Written.{group_appended}
use Rattle.segment_core.proofs.group.append_frame.Goals as goal

pub returns-clause-text : goal.returns-clause-text
returns-clause-text g c =
    let laws = g.met.R.Record g.world.𝓛 g.world.𝓜 g.world.𝓡 ((λ s x. x), (λ x. x), (λ x. x), λ x. x) in
    on_ok_weaker c.append_growths.result
    (λ bytes format.
    group_appended format g.R.Record.form (g.G.GrowthList.growths c.args.group.now) c.args.len c.count.result
    c.args.file.now.items c.append_head.new.file.items c.extend_from_slice.new.self.items
    c.append_lengths.new.file.items c.append_growths.new.file.items laws.width_of_bytes c.requires.len
    c.count.ensures c.in_ok-append_head.ensures.text
    (c.in_ok-extend_from_slice.ensures.items ∙ ap (λ (bs : List ℕ). c.append_head.new.file.items ++ bs) c.to_le_bytes.ensures)
    c.in_ok-append_lengths.ensures bytes)
    c.append_growths.ensures.bytes
