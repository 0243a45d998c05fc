use Rattle.std.proofs.Common.{sym, ◌∙◌}
use Rattle.segment_core.proofs.GrowthRows.{length-growths_from}
use Rattle.segment_core.proofs.growth_row.Growths.count.Goals as goal

pub returns : goal.returns
returns g c = rw (← c.self.view_is) (c.len.ensures ∙ c.self.inside.ends.ok.0 ∙ sym (length-growths_from 0 c.self.inside.ends.items c.self.inside.records.items))
