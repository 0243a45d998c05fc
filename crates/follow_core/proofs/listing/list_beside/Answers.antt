use Rattle.std.proofs.Common.{ap, ◌∙◌}
use Rattle.text_core.specs.Text.{record_lines}
use Rattle.std.specs.Prelude.{take, drop}
use Rattle.follow_core.specs.Answers.{AreListed}
use Rattle.follow_core.proofs.Whole.{told_records}
use Rattle.follow_core.proofs.listing.list_beside.Goals as goal

pub returns-clause-read : goal.returns-clause-read
returns-clause-read g c =
    told_records g.R.Record.form (AreListed g.R.TextRecord.spelling.text_of c.args.from c.args.count) _ _ _ _ _ _ _ c.in-Ok.found.0.items c.in-Ok.found.1
    (record_lines g.R.TextRecord.spelling.text_of c.window.result.now) c.write_records.result c.told.result c.told.ensures c.write_records.ensures
    (ap (record_lines g.R.TextRecord.spelling.text_of) (c.window.ensures ∙ ap (λ rs. take c.args.count (drop c.args.from rs)) c.deref.ensures.value)) c.in-Ok.ensures.read
