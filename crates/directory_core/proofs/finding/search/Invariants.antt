use Rattle.std.proofs.Common.{◌-◌}
use Rattle.directory_core.specs.Finding.{IsBetween}
use Rattle.directory_core.proofs.finding.search.Given as goal

abbrev pub invariant-loop-high : goal.invariant-loop-high
invariant-loop-high l = IsBetween l.starts l.i l.low l.high

abbrev pub decreases-loop-high : goal.decreases-loop-high
decreases-loop-high l = l.high - l.low
