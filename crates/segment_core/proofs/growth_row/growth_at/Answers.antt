use Rattle.segment_core.proofs.GrowthRows.{growth_at}
use Rattle.segment_core.proofs.growth_row.growth_at.Goals as goal

pub returns : goal.returns
returns g c = rw (c.range_at-start.ensures.place.0, c.range_at-start.ensures.place.1) (growth_at 0 c.args.ends.now c.args.row.now c.args.k c.requires.inside)
