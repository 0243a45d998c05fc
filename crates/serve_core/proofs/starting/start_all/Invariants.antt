use Rattle.std.proofs.Common.{◌≡◌, ℕ, ◌+◌, ◌≤◌, slice_get, Some, vec_len, vec_capacity}
use Rattle.book_core.specs.Beginning.{AreNewSeats}
use Rattle.serve_core.specs.Clients.{AreBegun}
use Rattle.serve_core.proofs.starting.start_all.Given as goal

-- The pipes that are left are the first of those that were given; the clients of the others have threads.
abbrev pub invariant-loop : goal.invariant-loop
invariant-loop g l = record {
  left : vec_len l.pipes + l.counter ≡ vec_len l.fn.pipes;
  as_many : vec_len l.seats ≡ vec_len l.pipes;
  new : AreNewSeats l.live.directory l.live.mark l.seats.items;
  front : (k : ℕ) (pair : _) → slice_get l.pipes.items k ≡ Some pair → slice_get l.fn.pipes.items k ≡ Some pair;
  count : vec_len l.away ≡ l.counter;
  begun : AreBegun l.live l.fn.pipes.items l.away.items;
  room : (vec_len l.fn.pipes ≤ vec_capacity l.away) × (vec_len l.fn.pipes ≤ vec_capacity l.seats);
}
