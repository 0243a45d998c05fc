use Rattle.std.proofs.Common.{◌≡◌, ◌-◌, ◌≤◌, take}
use Rattle.load_core.specs.Groups.{IsReadyPen, IsRowSettled}
use Rattle.load_core.proofs.groups.settle_row.Given as goal

abbrev pub invariant-loop-from : goal.invariant-loop-from
invariant-loop-from g l = record {
  ready : IsReadyPen g.R.Record.form.width l.pen;
  inside : l.from ≤ l.count;
  settled : IsRowSettled g.R.Record.form g.D.Disk.keeps g.D.Disk.states (take l.from l.row.0) l.fn.pen l.pen;
  shape_same : l.pen.shape ≡ l.fn.pen.shape;
  model : g.D.Disk.keeps l.pen.disk → g.D.Disk.keeps l.fn.pen.disk;
}

abbrev pub decreases-loop-from : goal.decreases-loop-from
decreases-loop-from g l = l.count - l.from
