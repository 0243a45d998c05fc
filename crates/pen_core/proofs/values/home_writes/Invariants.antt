use Rattle.std.proofs.Common.{◌≡◌, ℕ, ◌≤◌, length, map, take, drop, All}
use Rattle.std.specs.Prelude.{vec_capacity}
use Rattle.segment_core.specs.Written.{joined}
use Rattle.pen_core.specs.InHand.{write_of}
use Rattle.pen_core.specs.HomeRuns.{AreAscending}
use Rattle.pen_core.specs.Values.{IsPassed, writes_for}
use Rattle.pen_core.proofs.WritesFor.{Within}
use Rattle.pen_core.proofs.values.home_writes.Given as goal

abbrev pub invariant-loop-k : goal.invariant-loop-k
invariant-loop-k g l = record {
  end : ℕ;
  passed : IsPassed (g.G.GrowthList.growths l.pieces) l.passed;
  behind : l.passed.records ≤ end;
  left : AreAscending end (length (joined (g.G.GrowthList.growths l.pieces))) (drop l.k l.runs);
  so_far : map (write_of l.bytes.items) l.writes.items ≡ writes_for g.R.Record.form (joined (g.G.GrowthList.growths l.pieces)) (take l.k l.runs);
  within : All (Within (length l.bytes.items)) l.writes.items;
  many : length l.writes.items ≡ l.k;
  room : length l.runs ≤ vec_capacity l.writes;
}
