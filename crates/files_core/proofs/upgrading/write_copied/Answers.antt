use Rattle.std.proofs.Common.{◌∷◌, ◌++◌, []}
use Rattle.std.specs.Prelude.{codes, decimal}
use Rattle.text_core.proofs.Written.{appends_last}
use Rattle.files_core.proofs.upgrading.write_copied.Goals as goal

pub returns : goal.returns
returns g c =
    appends_last c.write_line.result (g.W.Write.contents c.args.writer.now) (g.W.Write.contents c.write_numbered.new.writer)
    (g.W.Write.contents c.write_line.new.writer) (codes "copied size " ++ decimal c.args.size) (10 ∷ []) c.in_ok-write_numbered.ensures
    c.write_line.ensures
