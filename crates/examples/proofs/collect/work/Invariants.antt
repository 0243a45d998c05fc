use Rattle.concurrent_vector.specs.Lists.{IsSeatOf}
use Rattle.examples.proofs.collect.work.Given as goal

abbrev pub invariant-loop-k : goal.invariant-loop-k
invariant-loop-k g l = IsSeatOf l.live l.results.seat
