use Rattle.std.proofs.Common.{◌≡◌, ◌++◌, take}
use Rattle.lines_core.proofs.gathering.extend.Given as goal

abbrev pub invariant-loop-k : goal.invariant-loop-k
invariant-loop-k g l = l.growths ≡ (l.fn.growths.0, l.fn.growths.1 ++ take l.k l.records)
