-- The seat is one of the phase at each turn.
use Rattle.book_core.specs.Lists.{IsSeatOf}
use Rattle.call_tests.proofs.tests.growths.push_seven.Given as goal

abbrev pub invariant-loop-v : goal.invariant-loop-v
invariant-loop-v g l = IsSeatOf l.live l.appender.seat
