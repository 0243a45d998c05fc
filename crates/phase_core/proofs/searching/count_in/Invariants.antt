use Rattle.std.proofs.Common.{◌≡◌, take}
use Rattle.std.specs.List.{count_by}
use Rattle.phase_core.specs.Grower.{equals}
use Rattle.phase_core.proofs.searching.count_in.Given as goal

abbrev pub invariant-loop-record : goal.invariant-loop-record
invariant-loop-record g l = l.count ≡ count_by (equals g.R.PartialEq.eq l.sought) (take l.record-index l.records)
