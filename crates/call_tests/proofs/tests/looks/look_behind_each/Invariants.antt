-- Both seats are of the phase at each turn.
use Rattle.book_core.specs.Lists.{IsSeatOf}
use Rattle.call_tests.proofs.tests.looks.look_behind_each.Given as goal

abbrev pub invariant-loop-number : goal.invariant-loop-number
invariant-loop-number g l = IsSeatOf l.live l.first × IsSeatOf l.live l.second
