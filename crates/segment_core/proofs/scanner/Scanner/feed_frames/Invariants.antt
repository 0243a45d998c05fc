use Rattle.std.proofs.Common.{◌≤◌, ◌-◌, List, ◌++◌, ℕ, length, take}
use Rattle.segment_core.specs.Scanner.{GoesOn, IsOn}
use Rattle.segment_core.proofs.scanner.Scanner.feed_frames.Given as goal

abbrev pub invariant-loop-used : goal.invariant-loop-used
invariant-loop-used g l = record {
  inside : l.used ≤ length l.piece;
  on : (image : List ℕ) → GoesOn g.R.Record.form image l.fn.self → IsOn g.R.Record.form (image ++ take l.used l.piece) l.self;
}

abbrev pub decreases-loop-used : goal.decreases-loop-used
decreases-loop-used g l = length l.piece - l.used
