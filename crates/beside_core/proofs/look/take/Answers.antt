use Rattle.std.proofs.Common.{arith}
use Rattle.std.proofs.lemmas.Grind.{common_steps}
use Rattle.beside_core.proofs.Taken.{taken_by}
use Rattle.beside_core.proofs.look.take.Goals as goal

pub returns-in-Ok-clause-taken : goal.returns-in-Ok-clause-taken
returns-in-Ok-clause-taken g c = taken_by _ _ _ _ _ _ c.read_at.new.out _ (grind (arith, common_steps)) (λ kept. c.in-Ok.ensures.each kept)
