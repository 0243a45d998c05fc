use Rattle.std.proofs.Common.{refl}
use Rattle.drive_core.proofs.VaultEvents.{rests_lent}
use Rattle.drive_core.proofs.VaultLanes.{lane_answers, lane_refuses}
use Rattle.drive_core.proofs.exclusive.tick.Goals as goal

pub returns-in-Ok-clause-steps : goal.returns-in-Ok-clause-steps
returns-in-Ok-clause-steps g c = λ w tie.
    let e = c.in-Ok.ensures in
    let rests = rests_lent tie c.tick-ticked.new.self c.disk.ensures.disk c.disk.ensures.images in
    lane_answers tie (record { blocks = e.list; images = e.images; model = e.model; rests = rests }) e.whole.0 e.sure c.args.lane c.in-Ok.tick refl e.ticked e.whole.1 e.time

pub returns-in-Err-clause-steps : goal.returns-in-Err-clause-steps
returns-in-Err-clause-steps g c = λ w tie.
    let e = c.in-Err.ensures in
    let rests = rests_lent tie c.tick-ticked.new.self c.disk.ensures.disk c.disk.ensures.images in
    lane_refuses tie (record { blocks = e.list; images = e.images; model = e.model; rests = rests }) e.sure c.args.lane c.in-Err.fault refl e.refused e.time e.faults
