use Rattle.std.proofs.Common.{arith}
use Rattle.std.proofs.lemmas.Grind.{common_steps}
use Rattle.vault_core.proofs.vault.Vault.begin_fold.Goals as goal

pub begin_fold_from-requires-clause-values : goal.begin_fold_from-requires-clause-values
begin_fold_from-requires-clause-values g c κs within = grind (arith, common_steps)
