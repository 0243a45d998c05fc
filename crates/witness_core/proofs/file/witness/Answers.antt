use Rattle.witness_core.proofs.Witnessed.{witnessed_now}
use Rattle.witness_core.proofs.file.witness.Goals as goal

pub returns : goal.returns
returns g c = record {
  witnessed =
      witnessed_now g.D.Disk.keeps g.D.Disk.states g.met.D.Disk.reads_an_image c.args.pen.now c.disk.result.now c.disk.ensures.disk c.disk.ensures.kept c.requires.wide
      c.requires.rests.0 c.requires.rests.1;
}
