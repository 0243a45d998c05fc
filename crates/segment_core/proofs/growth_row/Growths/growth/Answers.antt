use Rattle.std.proofs.lemmas.Grind.{common_steps}
use Rattle.std.proofs.Common.{length, ap, sym, ◌∙◌, arith}
use Rattle.segment_core.proofs.GrowthRows.{length-growths_from}
use Rattle.segment_core.proofs.growth_row.Growths.growth.Goals as goal

pub growth_at-requires-clause-inside : goal.growth_at-requires-clause-inside
growth_at-requires-clause-inside g c =
    let count = ap (λ v. length v.0) (sym c.self.view_is) ∙ length-growths_from 0 c.self.inside.ends.items c.self.inside.records.items in
    let ends = ap length c.as_slice-2.ensures.value in
    let inside = c.requires in
    omega arith

pub returns : goal.returns
returns g c = grind (arith, common_steps)
