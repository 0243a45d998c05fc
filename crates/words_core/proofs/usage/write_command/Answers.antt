use Rattle.std.proofs.Common.{rules}
use Rattle.std.specs.Prelude.{codes}
use Rattle.words_core.proofs.Written.{appends_before}
use Rattle.words_core.proofs.usage.write_command.Goals as goal

pub returns : goal.returns
returns g c =
    let one = g.W.Write.contents c.write_all.new.self in
    let two = g.W.Write.contents c.write_all-2.new.self in
    let new = g.W.Write.contents c.write_all-3.new.self in
    appends_before c.write_all-3.result (g.W.Write.contents c.args.writer.now) one new (codes "'cvec help ") _ c.in_ok-write_all.ensures.bytes
    (appends_before c.write_all-3.result one two new c.args.name.now _ (search rules) c.write_all-3.ensures.bytes)
