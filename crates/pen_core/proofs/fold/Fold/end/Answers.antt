use Rattle.std.proofs.Common.{arith}
use Rattle.std.proofs.lemmas.Grind.{common_steps}
use Rattle.pen_core.proofs.fold.Fold.end.Goals as goal

pub returns-in-Filed-clause-live : goal.returns-in-Filed-clause-live
returns-in-Filed-clause-live c = grind (arith, common_steps)
