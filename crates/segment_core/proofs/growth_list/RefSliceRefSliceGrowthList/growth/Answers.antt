use Rattle.std.proofs.Common.{arith}
use Rattle.std.proofs.lemmas.Grind.{common_steps}
use Rattle.segment_core.proofs.growth_list.RefSliceRefSliceGrowthList.growth.Goals as goal

pub offset_bounds-self-k : goal.offset_bounds-self-k
offset_bounds-self-k g c = grind (arith, common_steps)

pub bounds-self-k : goal.bounds-self-k
bounds-self-k g c = grind (arith, common_steps)
