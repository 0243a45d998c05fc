use Rattle.std.proofs.Common.{◌≡◌, ℕ, ◌+◌, ◌<◌, ◌≤◌, take, length, get_or, vec_len, vec_capacity}
use Rattle.std.specs.Prelude.{sum_by}
use Rattle.book_core.specs.Lists.{records_of}
use Rattle.book_core.proofs.opening.Opening.of.Given as goal

abbrev pub invariant-loop-block : goal.invariant-loop-block
invariant-loop-block g l =
    (sum_by length (take l.block-index (records_of l.fn.blocks.items)) ≡ l.size)
    × (vec_len l.ends ≡ l.block-index)
    × (vec_len l.fn.blocks ≤ vec_capacity l.ends)
    × ((k : ℕ) → k < l.block-index → get_or l.ends.items k 0 ≡ sum_by length (take (k + 1) (records_of l.fn.blocks.items)))
