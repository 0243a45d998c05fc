use Rattle.std.specs.Prelude.{◌≡◌, length}
use Rattle.filing_core.proofs.serving.pipes_of.Given as goal

abbrev pub invariant-loop-client : goal.invariant-loop-client
invariant-loop-client g l = length l.pipes.items ≡ l.client
