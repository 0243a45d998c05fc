use Rattle.std.proofs.Common.{◌≡◌, ◌≤◌, ◌-◌, ◌++◌}
use Rattle.segment_core.specs.Written.{joined}
use Rattle.pen_core.specs.Values.{IsPassed, bytes_at}
use Rattle.pen_core.proofs.values.append_values.Given as goal

abbrev pub invariant-loop-k : goal.invariant-loop-k
invariant-loop-k g l = record {
  here : l.passed.pieces ≡ l.k;
  passed : IsPassed (g.G.GrowthList.growths l.pieces) l.passed;
  behind : l.passed.records ≤ l.at;
  from : l.from ≤ l.at;
  to : l.at ≤ l.to;
  values : l.bytes.items ≡ l.fn.bytes.items ++ bytes_at g.R.Record.form (joined (g.G.GrowthList.growths l.pieces)) l.from (l.at - l.from);
}
