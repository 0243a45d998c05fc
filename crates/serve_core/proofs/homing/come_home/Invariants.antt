use Rattle.std.proofs.Common.{◌≡◌, ◌+◌, ◌≤◌, vec_len, vec_capacity}
use Rattle.serve_core.specs.Clients.{AreBegun}
use Rattle.serve_core.proofs.Clients.{AreSeatsOf}
use Rattle.serve_core.proofs.homing.come_home.Given as goal

abbrev pub invariant-loop : goal.invariant-loop
invariant-loop g l = record {
  left : vec_len l.away + l.counter ≡ vec_len l.fn.away;
  begun : AreBegun l._live l._pipes.value.items l.away.items;
  count : vec_len l.seats ≡ l.counter;
  room : vec_len l.fn.away ≤ vec_capacity l.seats;
  home : AreSeatsOf g.R.Record.form l._live g.I.Read.remaining g.W.Write.contents l._pipes.value.items l.seats.items;
}
