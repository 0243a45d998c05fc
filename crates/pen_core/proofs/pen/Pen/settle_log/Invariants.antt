use Rattle.std.proofs.Common.{◌≡◌, ◌⊎◌}
use Rattle.pen_core.specs.Pen.{log_left}
use Rattle.pen_core.specs.Settled.{LogGoes}
use Rattle.pen_core.proofs.pen.Pen.settle_log.Given as goal

abbrev pub invariant-loop : goal.invariant-loop
invariant-loop g l = record {
  so_far : (l.self ≡ l.fn.self) ⊎ LogGoes g.D.Disk.keeps g.D.Disk.states g.D.Disk.faults l.fn.self l.self;
}

abbrev pub decreases-loop : goal.decreases-loop
decreases-loop g l = log_left l.self.job
