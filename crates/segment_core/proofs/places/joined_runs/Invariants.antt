use Rattle.std.proofs.Common.{◌≡◌, take}
use Rattle.std.specs.List.{flat_map}
use Rattle.segment_core.proofs.places.joined_runs.Given as goal

abbrev pub invariant-loop-k : goal.invariant-loop-k
invariant-loop-k l = l.runs.items ≡ flat_map (λ homes. homes.items) (take l.k l.changes.items)
