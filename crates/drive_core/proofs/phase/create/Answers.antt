use Rattle.std.proofs.Common.{refl}
use Rattle.drive_core.specs.Medium.{medium}
use Rattle.drive_core.proofs.VaultEvents.{holds_lent}
use Rattle.drive_core.proofs.OpeningEvents.{create_answers, create_refuses}
use Rattle.drive_core.proofs.phase.create.Goals as goal

pub returns-in-Ok-clause-steps : goal.returns-in-Ok-clause-steps
returns-in-Ok-clause-steps g c = λ w tie.
    let m = medium g.R.Record.form g.D.Disk.states g.D.Disk.faults g.D.Disk.keeps in
    create_answers tie c.args.format refl c.in-Ok.ensures (holds_lent m c.in-Ok.vault c.disk.ensures.disk c.disk.ensures.images)

pub returns-in-Err-clause-steps : goal.returns-in-Err-clause-steps
returns-in-Err-clause-steps g c = λ w tie. create_refuses tie c.args.format c.in-Err.disk c.in-Err.fault refl c.in-Err.ensures
