use Rattle.std.proofs.Common.{◌≡◌, ◌≤◌, ◌++◌, length, take, vec_capacity}
use Rattle.std.specs.List.{flat_map}
use Rattle.segment_core.specs.Frame.{number_text, run_text}
use Rattle.segment_core.specs.Runs.{runs_given}
use Rattle.segment_core.proofs.change.append_runs.Given as goal

abbrev pub invariant-loop-k : goal.invariant-loop-k
invariant-loop-k l = record {
  text : l.file.items ≡ (l.fn.file.items ++ number_text l.format (length l.runs)) ++ flat_map (run_text l.format) (runs_given (take l.k l.runs));
  capacity : vec_capacity l.fn.file ≤ vec_capacity l.file;
}
