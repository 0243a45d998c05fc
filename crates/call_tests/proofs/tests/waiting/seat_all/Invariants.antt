use Rattle.book_core.specs.Beginning.{AreNewSeats}
use Rattle.call_tests.proofs.tests.waiting.seat_all.Given as goal

abbrev pub invariant-loop-number : goal.invariant-loop-number
invariant-loop-number l = AreNewSeats l.live.directory l.live.mark l.seats.items
