use Rattle.std.proofs.Common.{◌≡◌, ℕ, ◌≤◌, take, drop}
use Rattle.segment_core.specs.Found.{home_among}
use Rattle.pen_core.specs.Covered.{StandApart}
use Rattle.pen_core.specs.HomeRuns.{positions_in, positions_at, AreGreatestRuns}
use Rattle.pen_core.proofs.home_runs.home_runs.Given as goal

abbrev pub invariant-loop-k : goal.invariant-loop-k
invariant-loop-k l = record {
  end : ℕ;
  inside : end ≤ l.size;
  positions : positions_at l.runs.items ≡ positions_in (take l.k l.cover);
  runs_are : AreGreatestRuns l.width (home_among l.width l.homes) end l.runs.items;
  left : StandApart end (drop l.k l.cover);
}
