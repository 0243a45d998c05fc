use Rattle.std.proofs.Common.{◌≤◌, length}
use Rattle.lines_core.proofs.gathering.whole_lines.Given as goal

abbrev pub invariant-loop-len : goal.invariant-loop-len
invariant-loop-len l = l.len ≤ length l.buffer

abbrev pub decreases-loop-len : goal.decreases-loop-len
decreases-loop-len l = l.len
