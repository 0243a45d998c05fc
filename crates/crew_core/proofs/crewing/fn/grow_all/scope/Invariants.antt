use Rattle.std.proofs.Common.{◌≡◌, ◌+◌, ◌≤◌, vec_len, vec_capacity}
use Rattle.book_core.specs.Beginning.{AreNewSeats}
use Rattle.crew_core.specs.Crewing.{AreSent}
use Rattle.crew_core.proofs.crewing.fn.grow_all.scope.Given as goal

abbrev pub invariant-loop : goal.invariant-loop
invariant-loop g l = record {
  left : vec_len l.seats + l.counter ≡ vec_len l.initial.seats;
  new : AreNewSeats l.live.directory l.live.mark l.seats.items;
  count : vec_len l.sent ≡ l.counter;
  sent : AreSent l.live l.source l.gate (vec_len l.initial.seats) l.sent.items;
  room : (vec_len l.initial.seats ≤ vec_capacity l.sent) × (vec_len l.initial.seats ≤ vec_capacity l.seats);
}
