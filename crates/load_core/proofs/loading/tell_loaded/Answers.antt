use Rattle.files_core.specs.Texts.{loaded_line}
use Rattle.files_core.proofs.Opened.{told_done, told_text}
use Rattle.load_core.proofs.loading.tell_loaded.Goals as goal

pub returns-clause-done : goal.returns-clause-done
returns-clause-done g c = told_done c.write_loaded-written.result c.told.result c.told.ensures

pub returns-clause-writes : goal.returns-clause-writes
returns-clause-writes g c =
    told_text (g.W.Write.contents c.args.writer.now) (g.W.Write.contents c.write_loaded-written.new.writer) (loaded_line c.args.appended.growths c.args.appended.size)
    c.write_loaded-written.result c.told.result c.told.ensures c.write_loaded-written.ensures
