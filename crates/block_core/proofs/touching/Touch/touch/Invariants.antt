use Rattle.std.proofs.Common.{◌≡◌, ◌≤◌, ◌<◌, ◌+◌, ℕ}
use Rattle.std.specs.Prelude.{slice_index_or}
use Rattle.block_core.proofs.touching.Touch.touch.Given as goal

-- the records before this place are touched, and the others are as they were
abbrev pub invariant-loop-k : goal.invariant-loop-k
invariant-loop-k g l = record {
  touched : (i : ℕ) (d : _) → i < l.k → slice_index_or l.part i d ≡ g.Self.Touch.one l.self (l.at + i) (slice_index_or l.fn.part i d);
  others : (i : ℕ) (d : _) → l.k ≤ i → slice_index_or l.part i d ≡ slice_index_or l.fn.part i d;
}
