use Rattle.std.proofs.Common.{◌≡◌, take}
use Rattle.std.specs.List.{count_by}
use Rattle.search_core.proofs.equal.first_equal.Given as goal

-- none so far is the one
abbrev pub invariant-loop-k : goal.invariant-loop-k
invariant-loop-k g l = count_by (λ r. g.R.PartialEq.eq r l.wanted) (take l.k l.records) ≡ 0
