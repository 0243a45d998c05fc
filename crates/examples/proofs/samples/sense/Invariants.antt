use Rattle.concurrent_vector.specs.Lists.{IsSeatOf}
use Rattle.examples.proofs.samples.sense.Given as goal

abbrev pub invariant-loop-batch : goal.invariant-loop-batch
invariant-loop-batch g l = IsSeatOf l.live l.seat
