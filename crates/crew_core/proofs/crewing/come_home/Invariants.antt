use Rattle.std.proofs.Common.{◌≡◌, ◌+◌, ◌≤◌, map, vec_len, vec_capacity}
use Rattle.crew_core.specs.Crewing.{AreSent, AreHome}
use Rattle.crew_core.proofs.crewing.come_home.Given as goal

abbrev pub invariant-loop : goal.invariant-loop
invariant-loop g l = record {
  left : vec_len l.sent + l.counter ≡ vec_len l.fn.sent;
  sent : AreSent l._live l._source l._gate (vec_len l.fn.sent) l.sent.items;
  lens : (vec_len l.seats ≡ l.counter) × (vec_len l.receipts ≡ l.counter) × (vec_len l.faults ≡ l.counter);
  rooms : (vec_len l.fn.sent ≤ vec_capacity l.seats) × (vec_len l.fn.sent ≤ vec_capacity l.receipts) × (vec_len l.fn.sent ≤ vec_capacity l.faults);
  home : AreHome g.R.Record.form.width l._live (g.S.Source.count_of l._source) (g.S.Source.block_of l._source) (g.G.Gate.may_stop l._gate) (g.G.Gate.has_let l._gate) (g.G.Gate.was_told l._gate) l.counter
      l.seats.items (map (λ its. its.items) l.receipts.items) l.faults.items;
}
