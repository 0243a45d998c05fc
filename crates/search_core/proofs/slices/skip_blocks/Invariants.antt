use Rattle.std.proofs.Common.{◌≡◌, ◌++◌, List, length}
use Rattle.std.specs.List.{count_by}
use Rattle.search_core.proofs.slices.skip_blocks.Given as goal

-- none of the records that are gone is picked
abbrev pub invariant-loop-rest : goal.invariant-loop-rest
invariant-loop-rest g l = record {
  gone : List g.row.R.Denot;
  whole : l.records ≡ gone ++ l.rest;
  none : count_by (g.P.Pick.picks_of l.pick) gone ≡ 0;
}

abbrev pub decreases-loop-rest : goal.decreases-loop-rest
decreases-loop-rest g l = length l.rest
