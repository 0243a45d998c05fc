use Rattle.std.proofs.Common.{◌≡◌, take, length}
use Rattle.search_core.specs.Search.{records_in}
use Rattle.search_core.proofs.slices.middle.Given as goal

abbrev pub invariant-loop-k : goal.invariant-loop-k
invariant-loop-k g l = l.len ≡ length (records_in (take l.k l.slices))
