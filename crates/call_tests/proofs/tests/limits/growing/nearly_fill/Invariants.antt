use Rattle.book_core.specs.Lists.{IsSeatOf}
use Rattle.call_tests.proofs.tests.limits.growing.nearly_fill.Given as goal

abbrev pub invariant-loop : goal.invariant-loop
invariant-loop g l = IsSeatOf l.live l.seat
