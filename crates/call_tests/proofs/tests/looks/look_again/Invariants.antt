-- The seat is one of the phase at each turn.
use Rattle.book_core.specs.Lists.{IsSeatOf}
use Rattle.call_tests.proofs.tests.looks.look_again.Given as goal

abbrev pub invariant-loop-turn : goal.invariant-loop-turn
invariant-loop-turn l = IsSeatOf l.live l.second
