use Rattle.text_core.proofs.Reading.{HasInput}
use Rattle.text_core.proofs.input.read_input.Given as goal

abbrev pub invariant-loop : goal.invariant-loop
invariant-loop g l = HasInput (g.I.Read.remaining l.initial.reader) (g.I.Read.remaining l.reader) l.input.items l.counter
