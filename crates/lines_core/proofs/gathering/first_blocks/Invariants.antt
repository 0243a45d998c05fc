use Rattle.std.proofs.Common.{◌≤◌, ◌<◌}
use Rattle.lines_core.proofs.WholeBlocks.{HasCut}
use Rattle.lines_core.proofs.gathering.first_blocks.Given as goal

abbrev pub invariant-loop-k : goal.invariant-loop-k
invariant-loop-k l = (l.whole ≤ l.k) × (l.lines ≤ l.k) × (l.held < l.size) × HasCut l.size l.buffer l.k l.whole l.held
