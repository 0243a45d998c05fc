use Rattle.std.proofs.Common.{◌≡◌, ◌⊎◌, ℕ, ◌<◌, get_or}
use Rattle.files_core.proofs.vacant.is_zero_or_of.Given as goal

abbrev pub invariant-loop-at : goal.invariant-loop-at
invariant-loop-at l = (k : ℕ) → k < l.at → (get_or l.bytes k 0 ≡ 0) ⊎ (get_or l.bytes k 0 ≡ get_or l.made k 0)
