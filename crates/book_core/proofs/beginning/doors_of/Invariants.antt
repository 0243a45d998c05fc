use Rattle.std.proofs.Common.{◌≡◌, ◌≤◌, vec_len, vec_capacity}
use Rattle.book_core.proofs.beginning.doors_of.Given as goal

abbrev pub invariant-loop : goal.invariant-loop
invariant-loop l = (vec_len l.doors ≡ l.counter) × (l.fn.count ≤ vec_capacity l.doors)
