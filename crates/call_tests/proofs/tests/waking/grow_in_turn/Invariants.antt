use Rattle.book_core.specs.Lists.{IsSeatOf}
use Rattle.call_tests.proofs.tests.waking.grow_in_turn.Given as goal

abbrev pub invariant-loop-k : goal.invariant-loop-k
invariant-loop-k g l = IsSeatOf l.live l.seat
