use Rattle.std.proofs.Common.{arith}
use Rattle.vault_core.proofs.vault.Vault.change_alone.Goals as goal

pub returns-then-count-eq0-clause-command : goal.returns-then-count-eq0-clause-command
returns-then-count-eq0-clause-command g c = λ some. absurd (omega (arith, some, c.if-count-eq0.true))
