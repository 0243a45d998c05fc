use Rattle.std.proofs.Common.{◌≡◌, ◌⊎◌}
use Rattle.pen_core.specs.Pen.{log_left}
use Rattle.flush_core.specs.Serving.{Serves}
use Rattle.flush_core.proofs.flusher.Flusher.settle_job.Given as goal

abbrev pub invariant-loop : goal.invariant-loop
invariant-loop g l = record {
  so_far : (l.self ≡ l.fn.self) ⊎ Serves g.R.Record.form g.D.Disk.keeps g.D.Disk.states l.fn.self l.self;
  whole : l.self.pen.broken ≡ l.fn.self.pen.broken;
  faults : g.D.Disk.faults l.self.pen.disk ≡ g.D.Disk.faults l.fn.self.pen.disk;
}

abbrev pub decreases-loop : goal.decreases-loop
decreases-loop g l = log_left l.self.pen.job
