use Rattle.std.proofs.Common.{sym, ◌∙◌}
use Rattle.segment_core.specs.declared.format.Format.TheVariants.{One}
use Rattle.image_core.proofs.Drafts.{IsDraft_push, IsDraft_stays, IsDraft_refused}
use Rattle.image_core.proofs.file_of_lines.take_group.Goals as goal

pub returns-then-is_some : goal.returns-then-is_some
returns-then-is_some g c =
    λ groups line draft. IsDraft_stays g.R.Record.form groups c.args.group.now.0 c.args.file.now.items c.args.too_large.now
    (sym c.is_some.ensures ∙ c.if-is_some.true) draft

pub returns-in-Ok : goal.returns-in-Ok
returns-in-Ok g c =
    λ groups line draft. IsDraft_push g.R.Record.form groups c.args.group.now.0 c.args.file.now.items c.append_group.new.file.items
    c.args.too_large.now (sym c.is_some.ensures ∙ c.if-is_some.false) (c.in-Ok.ensures.text One) c.in-Ok.ensures.fits draft

pub returns-in-Err-TooLarge : goal.returns-in-Err-TooLarge
returns-in-Err-TooLarge g c = λ groups line draft.
    IsDraft_refused g.R.Record.form groups c.args.group.now.0 c.args.file.now.items c.append_group.new.file.items c.args.line c.args.too_large.now
    (sym c.is_some.ensures ∙ c.if-is_some.false) line (rw c.in-Err-TooLarge.field-0-is at c.in-Err-TooLarge.ensures.fits) draft
