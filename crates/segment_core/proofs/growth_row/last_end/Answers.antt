use Rattle.std.proofs.lemmas.Grind.{common_steps}
use Rattle.std.proofs.Common.{length, ◌-◌, arith}
use Rattle.segment_core.proofs.GrowthRows.{last_at}
use Rattle.segment_core.proofs.growth_row.last_end.Goals as goal

pub returns-in-len1-up : goal.returns-in-len1-up
returns-in-len1-up c = let some = c.in-len1-up.len_at_least in last_at 0 c.args.ends.now (length c.args.ends.now - 1) (omega arith)

pub returns-in-empty : goal.returns-in-empty
returns-in-empty c = grind (arith, common_steps)
