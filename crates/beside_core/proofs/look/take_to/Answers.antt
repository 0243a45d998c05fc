use Rattle.std.proofs.Common.{arith}
use Rattle.beside_core.proofs.Taken.{taken_none}
use Rattle.beside_core.proofs.look.take_to.Goals as goal

pub returns-then-end-have-clause-taken : goal.returns-then-end-have-clause-taken
returns-then-end-have-clause-taken g c = taken_none _ _ _ _ _ _ (omega arith)
