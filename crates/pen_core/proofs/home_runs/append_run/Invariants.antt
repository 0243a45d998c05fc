use Rattle.std.proofs.Common.{◌≡◌, ◌⊎◌, ◌+◌, ◌-◌, ◌≤◌, ◌<◌, ◌++◌, length, get_or}
use Rattle.std.specs.List.{range_with_len}
use Rattle.segment_core.specs.declared.found.Home.{Home}
use Rattle.segment_core.specs.Found.{home_among}
use Rattle.pen_core.specs.HomeRuns.{positions_at, AreGreatestRuns}
use Rattle.pen_core.proofs.home_runs.append_run.Given as goal

abbrev pub invariant-loop-k : goal.invariant-loop-k
invariant-loop-k l = record {
  from : l.from ≤ l.at;
  to : l.at ≤ l.to;
  here : (d : Home) → l.at < l.to → l.k < length l.homes
      → ((get_or l.homes l.k d).position ≤ l.at)
      × ((l.at ≡ (get_or l.homes l.k d).position)
      ⊎ (l.at < (get_or l.homes l.k d).position + (get_or l.homes l.k d).count));
  all : length l.homes ≤ l.k → l.to ≤ l.at;
  positions : positions_at l.runs.items ≡ positions_at l.fn.runs.items ++ range_with_len l.from (l.at - l.from);
  runs_are : AreGreatestRuns l.width (home_among l.width l.homes) l.at l.runs.items;
}
