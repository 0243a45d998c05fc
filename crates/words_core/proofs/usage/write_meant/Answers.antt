use Rattle.std.proofs.Common.{rules}
use Rattle.std.specs.Prelude.{codes}
use Rattle.words_core.proofs.Written.{appends_before}
use Rattle.words_core.proofs.usage.write_meant.Goals as goal

pub returns : goal.returns
returns g c =
    let one = g.W.Write.contents c.write_all.new.self in
    let two = g.W.Write.contents c.write_all-2.new.self in
    let three = g.W.Write.contents c.write_all-3.new.self in
    let new = g.W.Write.contents c.write_command.new.writer in
    appends_before c.write_command.result (g.W.Write.contents c.args.writer.now) one new c.args.opening.now _ (search rules)
    (appends_before c.write_command.result one two new c.args.word.now _ (search rules)
    (appends_before c.write_command.result two three new (codes "' may be meant: ") _ c.in_ok-write_all-3.ensures.bytes c.write_command.ensures))
