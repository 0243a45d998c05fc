use Rattle.std.proofs.Common.{◌≡◌, ◌∙◌, length, sym, arith}
use Rattle.std.proofs.lemmas.Bool.{eqb-true}
use Rattle.vault_core.proofs.vault.Vault.change_runs.Goals as goal

pub returns-then-is_empty-clause-command : goal.returns-then-is_empty-clause-command
returns-then-is_empty-clause-command g c = λ some. absurd (let none = eqb-true (length c.args.runs.now) 0 (sym c.is_empty.ensures ∙ c.if-is_empty.true) in omega (arith, some, none))
