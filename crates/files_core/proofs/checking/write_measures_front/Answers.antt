use Rattle.text_core.proofs.Written.{appends_join, appends_last}
use Rattle.files_core.proofs.checking.write_measures_front.Goals as goal

pub returns : goal.returns
returns g c =
    let old = g.W.Write.contents c.args.writer.now in
    let one = g.W.Write.contents c.write_numbered.new.writer in
    let two = g.W.Write.contents c.write_numbered-2.new.writer in
    let front = appends_join old one two _ _ c.in_ok-write_numbered.ensures c.in_ok-write_numbered-2.ensures in
    appends_last c.write_numbered-3.result old two (g.W.Write.contents c.write_numbered-3.new.writer) _ _ front c.write_numbered-3.ensures
