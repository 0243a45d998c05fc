use Rattle.std.proofs.Common.{arith}
use Rattle.std.proofs.lemmas.Grind.{common_steps}
use Rattle.pen_core.proofs.change.runs_inside.Goals as goal

pub loop-k-preserved : goal.loop-k-preserved
loop-k-preserved c = grind (arith, common_steps)

pub returns-then-count-size : goal.returns-then-count-size
returns-then-count-size c = grind (arith, common_steps)

pub returns : goal.returns
returns c = grind (arith, common_steps)
