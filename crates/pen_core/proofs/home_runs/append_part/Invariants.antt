use Rattle.std.proofs.Common.{◌≡◌, ℕ, ◌+◌, ◌-◌, ◌≤◌, ◌<◌, Option, [], ◌∷◌, ◌++◌}
use Rattle.std.specs.List.{range_with_len}
use Rattle.pen_core.specs.HomeRuns.{positions_at, IsAdjacent, AreGreatest, AreGreatestRuns, behind}
use Rattle.pen_core.proofs.home_runs.append_part.Given as goal

abbrev pub invariant-loop-done : goal.invariant-loop-done
invariant-loop-done l = record {
  most : l.done ≤ l.part.count;
  positions : positions_at l.runs.items ≡ positions_at l.fn.runs.items ++ range_with_len l.part.position l.done;
  so_far : (home : ℕ → Option ℕ) → IsAdjacent l.width home l.part → AreGreatestRuns l.width home l.part.position l.fn.runs.items
      → AreGreatestRuns l.width home (l.part.position + l.done) l.runs.items;
  next : AreGreatest l.width l.fn.runs.items → l.done < l.part.count → AreGreatest l.width (l.runs.items ++ behind l.width l.part l.done ∷ []);
}

abbrev pub decreases-loop-done : goal.decreases-loop-done
decreases-loop-done l = l.part.count - l.done
