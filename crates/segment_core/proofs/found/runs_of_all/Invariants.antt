use Rattle.std.proofs.Common.{◌≡◌, take}
use Rattle.std.specs.List.{flat_map}
use Rattle.segment_core.specs.Found.{pairs_of}
use Rattle.segment_core.proofs.found.runs_of_all.Given as goal

abbrev pub invariant-loop-k : goal.invariant-loop-k
invariant-loop-k l = l.runs.items ≡ flat_map pairs_of (take l.k l.changes.items)
