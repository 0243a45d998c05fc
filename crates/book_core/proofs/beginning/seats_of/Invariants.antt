use Rattle.std.proofs.Common.{◌≡◌, ◌≤◌, vec_len, vec_capacity}
use Rattle.book_core.specs.Beginning.{AreNewSeats}
use Rattle.book_core.proofs.beginning.seats_of.Given as goal

abbrev pub invariant-loop-id : goal.invariant-loop-id
invariant-loop-id g l = (l.writer ≡ l.fn.writer) × (vec_len l.seats ≡ l.id) × (l.fn.count ≤ vec_capacity l.seats) × AreNewSeats l.fn.directory l.fn.mark l.seats.items
