use Rattle.std.proofs.Common.{◌≡◌, drop}
use Rattle.segment_core.specs.Tally.{are_inside}
use Rattle.segment_core.specs.Runs.{runs_given}
use Rattle.pen_core.proofs.change.runs_inside.Given as goal

abbrev pub invariant-loop-k : goal.invariant-loop-k
invariant-loop-k l = record { left : are_inside l.size (runs_given (drop l.k l.runs)) ≡ are_inside l.size (runs_given l.runs) }
