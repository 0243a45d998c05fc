use Rattle.std.proofs.Common.{◌+◌, ◌<◌, length, subst, arith}
use Rattle.std.specs.Io.KnownBytes.{Appends}
use Rattle.text_core.proofs.Small.{OnOk_from}
use Rattle.follow_core.specs.Event.{edit_lines, put_lines}
use Rattle.follow_core.proofs.Stepping.{nothing_written, step_written, appends_kept, none_by, some_by}
use Rattle.follow_core.proofs.events.write_step.Goals.{else-is_empty-via-then-is_empty+else-is_empty-2, else-is_empty-via-else-is_empty}
use Rattle.follow_core.proofs.events.write_step.Goals as goal

pub returns-then-is_empty-2 : goal.returns-then-is_empty-2
returns-then-is_empty-2 g c =
    let news = c.args.news.now in
    nothing_written g.R.TextRecord.spelling.text_of c.args.news.now (g.W.Write.contents c.args.writer.now)
    (none_by news.edits.items news.edits.len c.is_empty.result news.edits.ok.0 c.is_empty.ensures c.if-is_empty.true)
    (none_by news.records.items news.records.len c.is_empty-then-is_empty.result news.records.ok.0 c.is_empty-then-is_empty.ensures c.if-is_empty-2.true)

pub returns : goal.returns
returns g c =
    let news = c.args.news.now in
    let text_of = g.R.TextRecord.spelling.text_of in
    let old = g.W.Write.contents c.args.writer.now in
    let edited = g.W.Write.contents c.write_edits.new.writer in
    let put = g.W.Write.contents c.write_puts.new.writer in
    let ended = g.W.Write.contents c.write_step_end.new.writer in
    let new = g.W.Write.contents c.flush.new.self in
    let some : 0 < length news.edits.items + length news.records.items = elim c.else-is_empty.branch [
      | else-is_empty-via-then-is_empty+else-is_empty-2 w ↦ (
          let more = some_by news.records.items news.records.len w.is_empty-then-is_empty.result news.records.ok.0 w.is_empty-then-is_empty.ensures w.if-is_empty-2.false in omega (arith, more))
      | else-is_empty-via-else-is_empty w ↦ (
          let more = some_by news.edits.items news.edits.len c.is_empty.result news.edits.ok.0 c.is_empty.ensures w.if-is_empty.false in omega (arith, more))
    ] in
    let first : Appends old edited (edit_lines text_of news.edits.items) = subst (λ es. Appends old edited (edit_lines text_of es)) c.deref.ensures.value c.in_ok-write_edits.ensures in
    let second : Appends edited put (put_lines text_of news.records.items) = subst (λ rs. Appends edited put (put_lines text_of rs)) c.deref-2.ensures.value c.in_ok-write_puts.ensures in
    OnOk_from c.flush.result _ (λ ok. step_written text_of news c.of.result old edited put new some c.of.ensures first second
    (appends_kept put ended new _ c.in_ok-write_step_end.ensures c.flush.ensures.bytes))
