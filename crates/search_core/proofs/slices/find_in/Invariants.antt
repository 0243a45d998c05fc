use Rattle.std.proofs.Common.{◌≡◌, take}
use Rattle.std.specs.List.{count_by}
use Rattle.search_core.proofs.slices.find_in.Given as goal

-- none so far is picked
abbrev pub invariant-loop-k : goal.invariant-loop-k
invariant-loop-k g l = count_by (g.P.Pick.picks_of l.pick) (take l.k l.records) ≡ 0
