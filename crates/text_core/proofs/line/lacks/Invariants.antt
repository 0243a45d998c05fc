use Rattle.std.proofs.Common.{◌≢◌, ◌<◌, ℕ}
use Rattle.std.specs.Prelude.{IsTrue, slice_index}
use Rattle.text_core.proofs.line.lacks.Given as goal

abbrev pub invariant-loop-k : goal.invariant-loop-k
invariant-loop-k l = IsTrue l.lacks → (i : ℕ) → i < l.k → slice_index l.bytes i ≢ l.separator
