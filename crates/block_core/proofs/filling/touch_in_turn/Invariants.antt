use Rattle.std.proofs.Common.{◌≡◌, ◌≤◌, ◌<◌, ◌+◌, ◌-◌, ℕ, length}
use Rattle.std.specs.Prelude.{slice_index_or}
use Rattle.block_core.proofs.filling.touch_in_turn.Given as goal

-- so many records are touched, and the others are as they were
abbrev pub invariant-loop-done : goal.invariant-loop-done
invariant-loop-done g l = record {
  inside : l.done ≤ length l.records;
  touched : (i : ℕ) (d : _) → i < l.done → slice_index_or l.records i d ≡ g.T.Touch.one l.touch (l.at + i) (slice_index_or l.fn.records i d);
  others : (i : ℕ) (d : _) → l.done ≤ i → slice_index_or l.records i d ≡ slice_index_or l.fn.records i d;
}

abbrev pub decreases-loop-done : goal.decreases-loop-done
decreases-loop-done g l = length l.records - l.done
