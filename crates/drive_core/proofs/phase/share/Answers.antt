use Rattle.std.proofs.Common.{refl}
use Rattle.drive_core.proofs.Shared.{share_answers, share_refuses}
use Rattle.drive_core.proofs.phase.share.Goals as goal

pub returns-in-Ok-clause-steps : goal.returns-in-Ok-clause-steps
returns-in-Ok-clause-steps g c = λ w tie.
    let e = c.in-Ok.ensures in
    share_answers tie c.args.room c.clamped-count.ensures c.in-Ok.seats.items e.shares e.seats.0 e.seats.1 e.may c.begin-growing.ensures refl

pub returns-in-Err-clause-steps : goal.returns-in-Err-clause-steps
returns-in-Err-clause-steps g c = λ w tie. share_refuses tie c.args.room c.clamped-count.ensures c.in-Err.fault c.in-Err.ensures.refused.0 refl c.in-Err.ensures.refused.1
