use Rattle.files_core.proofs.Opened.{told_reads}
use Rattle.std.proofs.Common.{refl}
use Rattle.files_core.proofs.listing.list_part.Goals as goal

pub returns-clause-reads : goal.returns-clause-reads
returns-clause-reads g c =
    let e = c.in-Ok.ensures in
    told_reads g.R.Record.form g.D.Disk.keeps g.D.Disk.states g.D.Disk.faults _ _ _ _ _ refl e.only_syncs e.faults c.read_window_records.ensures.model c.told.ensures
