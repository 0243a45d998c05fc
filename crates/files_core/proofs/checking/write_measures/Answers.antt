use Rattle.std.proofs.Common.{◌∷◌, []}
use Rattle.text_core.proofs.Written.{appends_join, appends_last}
use Rattle.files_core.proofs.checking.write_measures.Goals as goal

pub returns : goal.returns
returns g c =
    let old = g.W.Write.contents c.args.writer.now in
    let one = g.W.Write.contents c.write_measures_front.new.writer in
    let two = g.W.Write.contents c.write_numbered.new.writer in
    let three = g.W.Write.contents c.write_numbered-2.new.writer in
    let framed = appends_join old one two _ _ c.in_ok-write_measures_front.ensures c.in_ok-write_numbered.ensures in
    let all = appends_join old two three _ _ framed c.in_ok-write_numbered-2.ensures in
    appends_last c.write_line.result old three (g.W.Write.contents c.write_line.new.writer) _ (10 ∷ []) all c.write_line.ensures
