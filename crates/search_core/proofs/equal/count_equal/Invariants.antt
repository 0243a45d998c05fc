use Rattle.std.proofs.Common.{◌≡◌, take}
use Rattle.std.specs.List.{count_by}
use Rattle.search_core.proofs.equal.count_equal.Given as goal

abbrev pub invariant-loop-r : goal.invariant-loop-r
invariant-loop-r g l = l.count ≡ count_by (λ r. g.R.PartialEq.eq r l.wanted) (take l.r-index l.records)
