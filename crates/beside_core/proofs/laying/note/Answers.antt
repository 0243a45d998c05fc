use Rattle.std.proofs.Common.{rules, ◌≡◌, ◌+◌, ◌∷◌, [], ◌++◌, Some, sym, ap, ◌∙◌}
use Rattle.record_core.specs.Cells.{cell}
use Rattle.beside_core.specs.declared.news.Edit.TheVariants.{Set}
use Rattle.beside_core.proofs.Noting.{slice_is_cell, notes_more}
use Rattle.beside_core.proofs.laying.note.Goals as goal

pub loop-k-preserved : goal.loop-k-preserved
loop-k-preserved g c =
    let form = g.R.Record.form in
    let pushed : c.push.new.self.items ≡ c.loop-k.edits.items ++ Set (c.args.start + c.loop-k.k) c.in-Some.record ∷ [] = search rules in
    let reads : form.value_of (cell form.width c.args.bytes.now c.loop-k.k) ≡ Some c.in-Some.record
    = ap form.value_of (sym (slice_is_cell form.width c.width_of-width.result c.loop-k.k c.args.bytes.now c.width_of-width.ensures.is)) ∙ sym c.in-Some.ensures in
    notes_more form c.args.start c.loop-k.k c.args.bytes.now c.args.edits.now.items c.loop-k.edits.items c.push.new.self.items c.in-Some.record c.loop-k.invariant reads pushed
