use Rattle.std.proofs.Common.{◌≡◌, ◌++◌, map, take}
use Rattle.segment_core.specs.Reading.{runs_of}
use Rattle.segment_core.proofs.found.push_runs.Given as goal

abbrev pub invariant-loop-k : goal.invariant-loop-k
invariant-loop-k l = l.runs.items ≡ l.fn.runs.items ++ map (λ run. (run.start, run.count)) (take l.k (runs_of l.change.frame))
