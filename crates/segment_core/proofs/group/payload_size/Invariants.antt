use Rattle.std.proofs.Common.{◌≡◌, ◌≤◌, take}
use Rattle.segment_core.specs.Written.{payload_len}
use Rattle.segment_core.proofs.group.payload_size.Given as goal

abbrev pub invariant-loop-k : goal.invariant-loop-k
invariant-loop-k g l = record {
  so_far : l.len ≡ payload_len g.R.Record.form.width (take l.k (g.G.GrowthList.growths l.group));
  small : l.len ≤ l.limit;
}
