use Rattle.std.proofs.Common.{arith}
use Rattle.std.proofs.lemmas.Grind.{common_steps}
use Rattle.segment_core.proofs.found.Found.take_group.Goals as goal

pub returns : goal.returns
returns g c = grind (arith, common_steps)

pub grow-requires-clause-filled : goal.grow-requires-clause-filled
grow-requires-clause-filled g c = grind (arith, common_steps)

pub grow-requires-clause-placed : goal.grow-requires-clause-placed
grow-requires-clause-placed g c = grind (arith, common_steps)
