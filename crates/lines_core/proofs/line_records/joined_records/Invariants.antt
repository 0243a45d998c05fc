use Rattle.std.proofs.Common.{◌≡◌, take}
use Rattle.segment_core.specs.Written.{joined}
use Rattle.lines_core.proofs.line_records.joined_records.Given as goal

abbrev pub invariant-loop-k : goal.invariant-loop-k
invariant-loop-k g l = l.records.items ≡ joined (take l.k l.growths.0)
