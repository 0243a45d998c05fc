use Rattle.std.proofs.Common.{◌≡◌, take, length}
use Rattle.std.specs.List.{count_by}
use Rattle.search_core.specs.Search.{records_in}
use Rattle.search_core.proofs.slices.first_in_turn.Given as goal

-- none of the slices so far has one that is picked
abbrev pub invariant-loop-k : goal.invariant-loop-k
invariant-loop-k g l = record {
  none : count_by (g.P.Pick.picks_of l.pick) (records_in (take l.k l.slices)) ≡ 0;
  len : l.before ≡ length (records_in (take l.k l.slices));
}
