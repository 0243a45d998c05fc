use Rattle.std.proofs.Common.{◌≡◌, take}
use Rattle.std.specs.List.{count_by}
use Rattle.search_core.proofs.slices.count_in.Given as goal

abbrev pub invariant-loop-r : goal.invariant-loop-r
invariant-loop-r g l = l.count ≡ count_by (g.P.Pick.picks_of l.pick) (take l.r-index l.records)
