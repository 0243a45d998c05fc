use Rattle.std.proofs.Common.{arith}
use Rattle.std.proofs.lemmas.Grind.{common_steps}
use Rattle.segment_core.proofs.notes.Notes.truncate.Goals as goal

pub returns-clause-beyond : goal.returns-clause-beyond
returns-clause-beyond c = grind (arith, common_steps)
