use Rattle.std.proofs.Common.{◌∷◌, ◌++◌, []}
use Rattle.std.specs.Prelude.{codes, decimal}
use Rattle.text_core.proofs.Written.{appends_join, appends_last}
use Rattle.load_core.proofs.appended.write_appended.Goals as goal

pub returns : goal.returns
returns g c =
    let old = g.W.Write.contents c.args.writer.now in
    let one = g.W.Write.contents c.write_numbered.new.writer in
    let two = g.W.Write.contents c.write_numbered-2.new.writer in
    appends_last c.write_line.result old two (g.W.Write.contents c.write_line.new.writer) _ (10 ∷ [])
    (appends_join old one two (codes "appended " ++ decimal c.args.appended.growths) (codes " growths, size " ++ decimal c.args.appended.size)
    c.in_ok-write_numbered.ensures c.in_ok-write_numbered-2.ensures) c.write_line.ensures
