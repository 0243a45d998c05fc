use Rattle.std.proofs.Common.{◌≡◌}
use Rattle.call_tests.proofs.tests.directory.threads.growths_of_two.Given as goal

abbrev pub invariant-loop-number : goal.invariant-loop-number
invariant-loop-number l = l.pass ≡ l.fn.pass
