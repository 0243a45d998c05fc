use Rattle.text_core.proofs.Written.{keeps_same}
use Rattle.files_core.proofs.Opened.{told_done}
use Rattle.filing_core.proofs.creating.tell_made.Goals as goal

pub returns-in-Ok-clause-ends : goal.returns-in-Ok-clause-ends
returns-in-Ok-clause-ends g c = rw c.in-Ok.is (told_done c.write_line.result c.told.result c.told.ensures)

pub returns-in-Err-clause-writes : goal.returns-in-Err-clause-writes
returns-in-Err-clause-writes g c = keeps_same (g.W.Write.contents c.args.writer.now)
