use Rattle.std.proofs.Common.{refl}
use Rattle.serve_core.proofs.serving.serve.Goals as goal

pub returns-in-Err-clause-left : goal.returns-in-Err-clause-left
returns-in-Err-clause-left g c = λ kept. (refl, c.in-Err.ensures.only_syncs kept, c.in-Err.ensures.refused kept)

pub returns-in-Err-clause-clients : goal.returns-in-Err-clause-clients
returns-in-Err-clause-clients g c = λ kept. (refl, c.in-Err.ensures.only_syncs kept, c.in-Err.ensures.refused kept)

pub returns-in-Ok-clause-left : goal.returns-in-Ok-clause-left
returns-in-Ok-clause-left g c = c.serve_vault.ensures.left c.args.disk (record { opened = c.in-Ok.ensures.opened; only_syncs = c.in-Ok.ensures.only_syncs; sure = c.in-Ok.ensures.sure })

pub returns-in-Ok-clause-clients : goal.returns-in-Ok-clause-clients
returns-in-Ok-clause-clients g c =
    c.serve_vault.ensures.clients c.args.disk (record { opened = c.in-Ok.ensures.opened; only_syncs = c.in-Ok.ensures.only_syncs; sure = c.in-Ok.ensures.sure })
