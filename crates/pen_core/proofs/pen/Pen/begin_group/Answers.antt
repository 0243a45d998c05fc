use Rattle.std.proofs.Common.{arith}
use Rattle.std.proofs.lemmas.Grind.{common_steps}
use Rattle.pen_core.proofs.pen.Pen.begin_group.Goals as goal

pub begin_growths-requires-clause-some : goal.begin_growths-requires-clause-some
begin_growths-requires-clause-some g c = grind (arith, common_steps)
