use Rattle.witness_core.proofs.LogTicks.{log_ticked}
use Rattle.witness_core.proofs.ticking.tick_log.Goals as goal

pub returns-clause-witnessed : goal.returns-clause-witnessed
returns-clause-witnessed g c model begin w =
    let e = c.tick_log.ensures in
    log_ticked g.D.Disk.states begin c.args.pen.now c.tick_log.new.self w (g.met.D.Disk.reads_an_image c.args.pen.now.disk (e.model model))
    (g.met.D.Disk.reads_an_image c.tick_log.new.self.disk model) (e.kept model) c.tick_log.result e.whole e.ticked (e.file model) e.refused (e.file_stays model) (e.calls model)
