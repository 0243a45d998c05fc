use Rattle.std.proofs.Common.{refl, ap}
use Rattle.drive_core.specs.Medium.{medium}
use Rattle.drive_core.specs.Step as step
use Rattle.drive_core.proofs.VaultEvents.{holds_lent}
use Rattle.drive_core.proofs.OpeningEvents.{open_answers, open_refuses}
use Rattle.drive_core.proofs.phase.open.Goals as goal

pub returns-in-Ok-clause-steps : goal.returns-in-Ok-clause-steps
returns-in-Ok-clause-steps g c = λ w tie.
    let m = medium g.R.Record.form g.D.Disk.states g.D.Disk.faults g.D.Disk.keeps in
    let e = c.in-Ok.ensures in
    open_answers tie refl c.len-size.ensures.is e.rests e.opened e.sure e.only_syncs e.time.0 e.time.1 e.time.2 (holds_lent m c.in-Ok.vault c.disk.ensures.disk c.disk.ensures.images)

pub returns-in-Err-clause-steps : goal.returns-in-Err-clause-steps
returns-in-Err-clause-steps g c = λ w tie.
    let e = c.in-Err.ensures in
    open_refuses tie c.in-Err.fault (ap step.Refused c.open_fault.ensures) e.refused e.faults e.only_syncs e.time.0 e.time.1 e.time.2
