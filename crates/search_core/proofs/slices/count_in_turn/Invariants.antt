use Rattle.std.proofs.Common.{◌≡◌, take}
use Rattle.std.specs.List.{count_by}
use Rattle.search_core.specs.Search.{records_in}
use Rattle.search_core.proofs.slices.count_in_turn.Given as goal

abbrev pub invariant-loop-k : goal.invariant-loop-k
invariant-loop-k g l = l.count ≡ count_by (g.P.Pick.picks_of l.pick) (records_in (take l.k l.slices))
