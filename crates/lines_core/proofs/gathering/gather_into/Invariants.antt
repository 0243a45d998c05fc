use Rattle.lines_core.proofs.Blocks.{IsGathered}
use Rattle.lines_core.proofs.gathering.gather_into.Given as goal

abbrev pub invariant-loop-k : goal.invariant-loop-k
invariant-loop-k g l = IsGathered l.block l.lines.0 l.k l.growths.0 l.growths.1 l.held
