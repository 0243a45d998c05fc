-- The command's own refusal, at this end.
use Rattle.std.proofs.Common.{inr}
use Rattle.handle_core.proofs.end.Role.resize.Goals as goal

pub returns-in-Err-clause-refused : goal.returns-in-Err-clause-refused
returns-in-Err-clause-refused g c = rw c.in-Vault.is (inr (c.in-Some.record, c.in-Some.ensures, (c.in-Err.fault, c.of_vault.ensures, c.in-Err.ensures)))
