use Rattle.std.proofs.Common.{◌≡◌, map, take}
use Rattle.segment_core.specs.FrameWalk.{extent_of}
use Rattle.segment_core.proofs.places.extents.Given as goal

abbrev pub invariant-loop-k : goal.invariant-loop-k
invariant-loop-k l = l.runs.items ≡ map extent_of (take l.k l.homes)
