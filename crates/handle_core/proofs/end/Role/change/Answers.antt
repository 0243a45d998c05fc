-- The command's own refusal, at this end.
use Rattle.std.proofs.Common.{inr, sym, subst}
use Rattle.record_core.specs.Cells.{AreRecords}
use Rattle.handle_core.proofs.end.Role.change.Goals as goal

pub returns-in-Vault-clause-refused : goal.returns-in-Vault-clause-refused
returns-in-Vault-clause-refused g c =
    let are = subst (λ records. AreRecords g.R.Record.form c.args.bytes.now records) (sym c.deref.ensures.value) c.in_ok-records-in-Vault.ensures.are in
    rw c.in-Vault.is (inr (c.deref.result.now, are, (c.in-Err.fault, c.of_vault.ensures, c.in-Err.ensures)))
