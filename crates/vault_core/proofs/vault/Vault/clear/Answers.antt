use Rattle.std.proofs.Common.{arith}
use Rattle.vault_core.proofs.vault.Vault.clear.Goals as goal

pub returns-then-len-eq0-clause-command : goal.returns-then-len-eq0-clause-command
returns-then-len-eq0-clause-command g c = λ some. absurd (omega (arith, some, c.if-len-eq0.true, c.len.ensures.is))
