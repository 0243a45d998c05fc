use Rattle.files_core.proofs.AnyBytes.{writable}
use Rattle.files_core.proofs.writable.open_read.Goals as goal

pub returns-in-Ok-clause-opened : goal.returns-in-Ok-clause-opened
returns-in-Ok-clause-opened g c =
    let e = c.in-Ok.ensures in
    writable g.R.Record.form g.D.Disk.keeps g.D.Disk.states g.D.Disk.faults c.args.disk c.in-Ok.pen c.in-Ok._records.items e.rests e.opened e.only_syncs e.faults e.model
