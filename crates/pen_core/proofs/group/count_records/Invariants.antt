use Rattle.std.proofs.Common.{◌≡◌, ◌≤◌, ◌^◌, length, take}
use Rattle.segment_core.specs.Written.{joined}
use Rattle.pen_core.proofs.group.count_records.Given as goal

abbrev pub invariant-loop-k : goal.invariant-loop-k
invariant-loop-k g l = record {
  so_far : l.total ≡ length (joined (take l.k (g.G.GrowthList.growths l.growths)));
  small : l.total ≤ 2 ^ 32;
}
