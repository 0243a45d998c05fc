use Rattle.std.proofs.Common.{◌≡◌, ℕ, ◌<◌, Some}
use Rattle.std.specs.Prelude.{slice_get}
use Rattle.phase_core.proofs.searching.place_in.Given as goal

-- none of those before is it
abbrev pub invariant-loop-k : goal.invariant-loop-k
invariant-loop-k g l = (i : ℕ) → i < l.k → slice_get l.records i ≡ Some l.sought → ⊥
