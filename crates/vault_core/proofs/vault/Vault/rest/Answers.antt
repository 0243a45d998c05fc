use Rattle.vault_core.proofs.Lent.{rest_at}
use Rattle.vault_core.proofs.vault.Vault.rest.Goals as goal

pub returns : goal.returns
returns g c = rw (← c.self.view_is) (rest_at c.self.inside.blocks c.args.i c.rest.result c.rest.ensures)
