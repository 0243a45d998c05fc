use Rattle.std.proofs.Common.{◌≡◌, ◌≤◌, ◌<◌, length, ℕ}
use Rattle.segment_core.specs.Found.{home_among, AreInTurn}
use Rattle.segment_core.proofs.homes.cut.Given as goal

abbrev pub invariant-loop-home : goal.invariant-loop-home
invariant-loop-home l = record {
  in_turn : (end : ℕ) × (l.size ≤ end) × AreInTurn 0 l.homes.items end;
  each : (width i : ℕ) → i < l.size → home_among width l.homes.items i ≡ home_among width l.fn.homes.items i;
}

abbrev pub decreases-loop-home : goal.decreases-loop-home
decreases-loop-home l = length l.homes.items
