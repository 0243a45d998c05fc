use Rattle.std.proofs.Common.{◌≡◌}
use Rattle.call_tests.proofs.tests.directory.threads.grow_as.Given as goal

abbrev pub invariant-loop-k : goal.invariant-loop-k
invariant-loop-k l = l.pass.of ≡ l.directory
