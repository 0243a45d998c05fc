use Rattle.std.proofs.Common.{rules, ◌≡◌, ◌-◌, ◌*◌, ◌∷◌, [], ◌++◌, ℕ, length, take, refl, sym, ap, ◌∙◌, arith}
use Rattle.std.proofs.lemmas.Grind.{common_steps}
use Rattle.segment_core.specs.Reading.{record_count, record_bytes_of}
use Rattle.beside_core.specs.declared.news.Edit.TheVariants.{Cut}
use Rattle.beside_core.proofs.TakenIn.{group_taken, tail_shrunk, front_shrunk, none_left_of}
use Rattle.beside_core.proofs.laying.lay.Goals.{then-size-laid+else-is_err, else-size-laid}
use Rattle.beside_core.proofs.laying.lay.Goals as goal

pub returns-in-Ok-clause-taken : goal.returns-in-Ok-clause-taken
returns-in-Ok-clause-taken g c = λ tally follows.
    let filled : length (record_bytes_of c.args.frame.now.frame) ≡ record_count c.args.frame.now.frame * g.R.Record.form.width
    = ap length (sym c.record_area.ensures.bytes) ∙ c.record_area.ensures.filled ∙ ap (λ w. record_count c.args.frame.now.frame * w) c.requires.wide in
    let more : c.extend_from_slice.new.self.items ≡ c.args.laid.now.tail.items ++ record_bytes_of c.args.frame.now.frame = grind (arith, common_steps) in
    group_taken g.R.Record.form tally c.args.laid.now (record { base = c.args.laid.now.base; edits = c.args.laid.now.edits; tail = c.extend_from_slice.new.self }) c.args.frame.now.frame
    (sym c.in-Group.ensures) follows refl refl more filled

pub returns-after-size-laid-clause-taken : goal.returns-after-size-laid-clause-taken
returns-after-size-laid-clause-taken g c = λ tally follows.
    let n : ℕ = c.new_length-size.result in
    let form = g.R.Record.form in
    let old = c.args.laid.now in
    let mid = c.if-size-laid.laid in
    elim c.if-size-laid.branch [
      | then-size-laid+else-is_err w ↦ (
          let pushed : w.push.new.self.items ≡ c.args.laid.now.edits.items ++ Cut c.new_length-size.result ∷ [] = search rules in
          let base_is : c.if-size-laid.laid.base ≡ c.new_length-size.result = ap (λ l. l.base) w.laid-is in
          let edits_are : c.if-size-laid.laid.edits.items ≡ c.args.laid.now.edits.items ++ Cut c.new_length-size.result ∷ [] = ap (λ l. l.edits.items) w.laid-is ∙ pushed in
          front_shrunk form tally old (record { base = mid.base; edits = mid.edits; tail = c.truncate.new.self }) c.args.frame.now.frame n c.new_length-size.ensures w.if-size-laid.true follows
          base_is edits_are (ap length c.truncate.ensures.items ∙ none_left_of n mid.base c.width_of.result mid.tail.items base_is))
      | else-size-laid w ↦ (
          let base_is : c.if-size-laid.laid.base ≡ c.args.laid.now.base = ap (λ l. l.base) w.laid-is in
          let edits_are : c.if-size-laid.laid.edits.items ≡ c.args.laid.now.edits.items = ap (λ l. l.edits.items) w.laid-is in
          let cut : c.truncate.new.self.items ≡ take ((c.new_length-size.result - c.args.laid.now.base) * g.R.Record.form.width) c.args.laid.now.tail.items
          = c.truncate.ensures.items ∙ ap (λ l. take ((n - l.base) * c.width_of.result) l.tail.items) w.laid-is
          ∙ ap (λ k. take ((n - c.args.laid.now.base) * k) c.args.laid.now.tail.items) c.width_of.ensures.is in
          tail_shrunk form tally old (record { base = mid.base; edits = mid.edits; tail = c.truncate.new.self }) c.args.frame.now.frame n c.new_length-size.ensures w.if-size-laid.false follows
          base_is edits_are cut)
    ]
