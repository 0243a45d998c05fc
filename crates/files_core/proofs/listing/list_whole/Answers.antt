use Rattle.files_core.proofs.Opened.{told_reads}
use Rattle.files_core.proofs.listing.list_whole.Goals as goal

pub returns-clause-reads : goal.returns-clause-reads
returns-clause-reads g c =
    told_reads g.R.Record.form g.D.Disk.keeps g.D.Disk.states g.D.Disk.faults _ _ _ _ _ c.into_disk.ensures.disk c.in-Ok.ensures.only_syncs c.in-Ok.ensures.faults
    c.in-Ok.ensures.model c.told.ensures
