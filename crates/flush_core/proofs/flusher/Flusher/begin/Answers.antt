use Rattle.flush_core.proofs.Kept.{begins, begun_opening}
use Rattle.flush_core.proofs.Told.{HasTold-none}
use Rattle.flush_core.proofs.flusher.Flusher.begin.Goals as goal

pub invariant_of-result : goal.invariant_of-result
invariant_of-result g c = (
  begins g.R.Record.form (g.D.Disk.keeps c.args.pen.disk) c.args.before c.args.pen c.requires.list c.args.pass c.args.mark
      c.requires.width c.requires.idle c.requires.size c.requires.in_limit c.requires.told,
  HasTold-none (g.D.Disk.keeps c.args.pen.disk) (g.D.Disk.states c.args.pen.disk) g.R.Record.form _ c.requires.told.1,
)

pub returns-clause-opening : goal.returns-clause-opening
returns-clause-opening g c records model are =
    begun_opening g.R.Record.form (g.D.Disk.keeps c.args.pen.disk) c.args.before c.args.pen c.requires.list records model are
