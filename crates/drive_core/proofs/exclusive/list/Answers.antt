use Rattle.std.proofs.Common.{refl}
use Rattle.drive_core.proofs.VaultLanes.{list_answers, list_refuses}
use Rattle.drive_core.proofs.exclusive.list.Goals as goal

pub returns-in-Ok : goal.returns-in-Ok
returns-in-Ok g c = record { steps = λ w tie. list_answers tie c.in-Ok.records.items refl c.in-Ok.ensures }

pub returns-in-Err : goal.returns-in-Err
returns-in-Err g c = record { steps = λ w tie. list_refuses tie refl }
