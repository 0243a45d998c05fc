use Rattle.std.proofs.Common.{◌≡◌, ◌++◌, take, map, length}
use Rattle.std.specs.List.{flat_map}
use Rattle.std.specs.Int.{w32, to_le_bytes}
use Rattle.segment_core.proofs.group.append_lengths.Given as goal

abbrev pub invariant-loop-k : goal.invariant-loop-k
invariant-loop-k g l = l.file.items ≡ l.fn.file.items ++ flat_map (to_le_bytes w32) (map length (take l.k (g.G.GrowthList.growths l.group)))
