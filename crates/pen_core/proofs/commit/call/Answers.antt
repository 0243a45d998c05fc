use Rattle.std.proofs.Common.{arith}
use Rattle.std.proofs.lemmas.Grind.{common_steps}
use Rattle.pen_core.proofs.commit.call.Goals as goal

pub returns-in-Body-clause-done : goal.returns-in-Body-clause-done
returns-in-Body-clause-done g c = grind (arith, common_steps)
