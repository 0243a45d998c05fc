use Rattle.beside_core.specs.Tail.{NotesRun}
use Rattle.beside_core.proofs.laying.note.Given as goal

abbrev pub invariant-loop-k : goal.invariant-loop-k
invariant-loop-k g l = NotesRun g.R.Record.form l.start l.k l.bytes l.fn.edits.items l.edits.items
