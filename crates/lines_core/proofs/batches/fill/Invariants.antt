use Rattle.lines_core.proofs.WholeBlocks.{HasFilled}
use Rattle.lines_core.proofs.batches.fill.Given as goal

abbrev pub invariant-loop : goal.invariant-loop
invariant-loop g l = HasFilled (g.I.Read.remaining l.fn.reader) (g.I.Read.remaining l.reader) l.fn.buffer.items l.buffer.items l.counter
