use Rattle.std.proofs.Common.{◌≡◌, ◌≤◌, ◌-◌, ℕ, List, length, drop}
use Rattle.segment_core.specs.Walk.{StandsBefore}
use Rattle.segment_core.proofs.walk.Walk.read.Given as goal

abbrev pub invariant-loop-frame : goal.invariant-loop-frame
invariant-loop-frame g l = record {
  inside : l.used ≤ length l.bytes;
  same : l.self.shape ≡ l.fn.self.shape;
  stands : (image : List ℕ) → StandsBefore g.R.Record.form image l.bytes l.fn.self → StandsBefore g.R.Record.form image (drop l.used l.bytes) l.self;
}

abbrev pub decreases-loop-frame : goal.decreases-loop-frame
decreases-loop-frame g l = length l.bytes - l.used
