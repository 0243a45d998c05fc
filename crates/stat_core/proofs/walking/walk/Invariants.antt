use Rattle.std.proofs.Common.{◌≡◌, ◌≤◌, ◌-◌, ◌+◌}
use Rattle.disk_core.specs.Calls.{bytes_of}
use Rattle.disk_core.specs.Moments.{clock}
use Rattle.stat_core.specs.Summary.{AreFew}
use Rattle.stat_core.specs.Walked.{Counts}
use Rattle.stat_core.specs.Window.{HoldsWindow, OnlyReads}
use Rattle.stat_core.proofs.walking.walk.Given as goal

abbrev pub invariant-loop-window : goal.invariant-loop-window
invariant-loop-window g l = record {
  few : AreFew l.summary;
  bytes : l.summary.bytes ≡ l.bytes;
  inside : l.summary.gate ≤ l.bytes;
  fits : l.window.len ≤ 65536;
  ends : l.window.start + l.window.len ≤ l.bytes;
  model : g.D.Disk.keeps l.disk → g.D.Disk.keeps l.fn.disk;
  reads : g.D.Disk.keeps l.disk → OnlyReads (g.D.Disk.states l.fn.disk) (g.D.Disk.states l.disk);
  holds : g.D.Disk.keeps l.disk → HoldsWindow (bytes_of (g.D.Disk.states l.fn.disk)) l.buffer l.window;
  calls : clock (g.D.Disk.states l.disk) ≤ clock (g.D.Disk.states l.fn.disk) + (l.summary.groups + l.summary.changes + l.summary.shrinks + l.summary.folds);
  made : clock (g.D.Disk.states l.fn.disk) ≤ clock (g.D.Disk.states l.disk);
  faults : g.D.Disk.faults l.disk ≡ g.D.Disk.faults l.fn.disk;
  counts : g.D.Disk.keeps l.disk → Counts l.shape (bytes_of (g.D.Disk.states l.fn.disk)) l.summary;
}

abbrev pub decreases-loop-window : goal.decreases-loop-window
decreases-loop-window g l = l.bytes - l.summary.gate
