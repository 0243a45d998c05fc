use Rattle.vault_core.proofs.Shares.{narrow_refused}
use Rattle.vault_core.proofs.vault.Vault.share.Goals as goal

pub returns-in-Ok-clause-refused : goal.returns-in-Ok-clause-refused
returns-in-Ok-clause-refused g c =
    narrow_refused c.args.self c.args.room c.args.seats c.in-Ok.ensures.may.bounds.room_in.1 c.share_wide.result c.share_wide.ensures.refused
