use Rattle.std.proofs.Common.{◌≡◌}
use Rattle.call_tests.proofs.tests.directory.threads.put_beside.Given as goal

abbrev pub invariant-loop : goal.invariant-loop
invariant-loop l = l.pass.of ≡ l.directory
