use Rattle.files_core.proofs.Opened.{told_done}
use Rattle.load_core.proofs.appended.tell_appended.Goals as goal

pub returns-in-Ok-clause-ends : goal.returns-in-Ok-clause-ends
returns-in-Ok-clause-ends g c = rw c.in-Ok.is (told_done c.write_appended.result c.told.result c.told.ensures)
