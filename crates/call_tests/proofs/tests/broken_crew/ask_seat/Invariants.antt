use Rattle.book_core.specs.Lists as lists
use Rattle.call_tests.proofs.tests.broken_crew.ask_seat.Given as goal

abbrev pub invariant-loop-i : goal.invariant-loop-i
invariant-loop-i l = lists.IsSeatOf l.live l.seat
