use Rattle.std.proofs.Common.{sym, subst}
use Rattle.book_core.specs.Beginning.{AreNewSeats}
use Rattle.phase_core.proofs.lending.shared.Goals as goal

pub invariant_of-result : goal.invariant_of-result
invariant_of-result g c = record {
  seated = subst (λ (live : _). AreNewSeats live.directory live.mark c.args.seats.items) (sym c.in-Some.ensures.0) c.requires.seated;
}
