use Rattle.std.proofs.Common.{◌≡◌, List, ℕ, ◌++◌, length}
use Rattle.float_core.specs.Encoded.{IsEncoded}
use Rattle.float_core.proofs.encoding.Encoder.append_encoded.Given as goal

-- what stands before the rest was taken
abbrev pub invariant-loop-at : goal.invariant-loop-at
invariant-loop-at l = (front : List ℕ) × (own : List ℕ) × (l.fn.bytes ≡ front ++ l.rest) × (l.out.items ≡ l.fn.out.items ++ own) × IsEncoded l.fn.self front own l.self

abbrev pub decreases-loop-at : goal.decreases-loop-at
decreases-loop-at l = length l.rest
