use Rattle.std.proofs.Common.{refl, ap}
use Rattle.files_core.specs.Checking.{measures_line}
use Rattle.files_core.proofs.Opened.{told_answer, told_reads}
use Rattle.text_core.proofs.Written.{keeps_same}
use Rattle.files_core.proofs.checking.check.Goals as goal

pub returns-in-Ok-clause-writes : goal.returns-in-Ok-clause-writes
returns-in-Ok-clause-writes g c =
    let is = c.in-Ok.ensures.measured in
    told_answer _ _ _ _ _ _ c.told.ensures c.write_measures-written.ensures (record { scanned = is.scanned; scan = is.scan; told = ap measures_line is.is })

pub returns-in-Ok-clause-reads : goal.returns-in-Ok-clause-reads
returns-in-Ok-clause-reads g c =
    told_reads g.R.Record.form g.D.Disk.keeps g.D.Disk.states g.D.Disk.faults _ _ _ _ _ refl c.measure.ensures.only_syncs c.in-Ok.ensures.faults
    c.measure.ensures.model c.told.ensures

pub returns-in-Err-clause-writes : goal.returns-in-Err-clause-writes
returns-in-Err-clause-writes g c = keeps_same (g.W.Write.contents c.args.writer.now)
