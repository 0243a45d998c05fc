use Rattle.std.proofs.Common.{◌≡◌, ◌+◌, drop}
use Rattle.segment_core.specs.Frame.{records_of_runs}
use Rattle.segment_core.specs.Runs.{runs_given}
use Rattle.pen_core.proofs.change.count_positions.Given as goal

abbrev pub invariant-loop-k : goal.invariant-loop-k
invariant-loop-k l = record { so_far : l.total + records_of_runs (runs_given (drop l.k l.runs)) ≡ records_of_runs (runs_given l.runs) }
