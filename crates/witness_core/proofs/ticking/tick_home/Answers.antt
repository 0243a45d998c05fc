use Rattle.witness_core.proofs.HomeTicks.{home_ticked}
use Rattle.witness_core.proofs.ticking.tick_home.Goals as goal

pub returns-clause-witnessed : goal.returns-clause-witnessed
returns-clause-witnessed g c model begin w =
    let e = c.tick_home.ensures in
    home_ticked g.D.Disk.states begin c.args.pen.now c.tick_home.new.self w (g.met.D.Disk.reads_an_image c.args.pen.now.disk (e.model model))
    (g.met.D.Disk.reads_an_image c.tick_home.new.self.disk model) (e.kept model) (e.file model) c.tick_home.result e.whole e.ticked e.refused (e.calls model)
