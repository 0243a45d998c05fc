use Rattle.std.proofs.Common.{◌≡◌, drop}
use Rattle.segment_core.specs.Tally.{are_ascending}
use Rattle.segment_core.specs.Reading.{runs_of}
use Rattle.segment_core.proofs.tally.runs_ascend.Given as goal

-- the runs that are left tell
abbrev pub invariant-loop-k : goal.invariant-loop-k
invariant-loop-k l = are_ascending 0 (runs_of l.frame.frame) ≡ are_ascending l.end (drop l.k (runs_of l.frame.frame))
