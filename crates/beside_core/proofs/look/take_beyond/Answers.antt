use Rattle.std.proofs.Common.{arith}
use Rattle.beside_core.proofs.Taken.{taken_none}
use Rattle.beside_core.proofs.look.take_beyond.Goals as goal

pub returns-then-count-len-clause-taken : goal.returns-then-count-len-clause-taken
returns-then-count-len-clause-taken g c = taken_none _ _ _ _ _ _ (omega arith)
