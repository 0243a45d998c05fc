use Rattle.std.proofs.Common.{arith}
use Rattle.std.proofs.lemmas.Grind.{common_steps}
use Rattle.vault_core.proofs.vault.Vault.resize.Goals as goal

pub returns-then-n-len-clause-list : goal.returns-then-n-len-clause-list
returns-then-n-len-clause-list g c = grind (arith, common_steps)

pub returns-clause-list : goal.returns-clause-list
returns-clause-list g c = grind (arith, common_steps)

pub returns-then-n-len-clause-up : goal.returns-then-n-len-clause-up
returns-then-n-len-clause-up g c = λ more. rw c.len-len.ensures.is at c.grow.ensures.command

pub returns-then-n-len-2-clause-up : goal.returns-then-n-len-2-clause-up
returns-then-n-len-2-clause-up g c = λ more. absurd (omega (arith, more, c.if-n-len-2.true, c.len-len.ensures.is))

pub returns-clause-up : goal.returns-clause-up
returns-clause-up g c = λ more. absurd (omega (arith, more, c.if-n-len.false, c.len-len.ensures.is))

pub returns-then-n-len-clause-down : goal.returns-then-n-len-clause-down
returns-then-n-len-clause-down g c = λ fewer. absurd (omega (arith, fewer, c.if-n-len.true, c.len-len.ensures.is))

pub returns-clause-down : goal.returns-clause-down
returns-clause-down g c = λ fewer. absurd (omega (arith, fewer, c.if-n-len-2.false, c.len-len.ensures.is))
