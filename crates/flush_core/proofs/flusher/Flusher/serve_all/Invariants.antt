use Rattle.std.proofs.Common.{◌≡◌, None}
use Rattle.flush_core.specs.Serving.{Serves}
use Rattle.flush_core.proofs.flusher.Flusher.serve_all.Given as goal

abbrev pub invariant-loop : goal.invariant-loop
invariant-loop g l = record {
  serves : Serves g.R.Record.form g.D.Disk.keeps g.D.Disk.states l.fn.self l.self;
  idle : l.self.pen.job ≡ None;
  whole : l.self.pen.broken ≡ l.fn.self.pen.broken;
  faults : g.D.Disk.faults l.self.pen.disk ≡ g.D.Disk.faults l.fn.self.pen.disk;
}
