-- Why a growth by bytes is refused: in the order in which it is asked.
use Rattle.std.proofs.Common.{◌<◌, ◌/◌, length, refl, inr, sym, ap, subst, ◌∙◌, arith}
use Rattle.std.proofs.lemmas.Result.{err_from_is_err_and}
use Rattle.block_core.specs.Length.{IsBlockLength, IsLengthFault}
use Rattle.book_core.specs.declared.fault.GrowFault.TheVariants as faults
use Rattle.book_core.specs.Growing.{IsBookRefusal}
use Rattle.book_core.proofs.Steps.{learns-refl}
use Rattle.phase_core.specs.Grower.{phase_of}
use Rattle.handle_core.proofs.GrowthLemmas.{counted, by_length, by_book, by_records}
use Rattle.handle_core.proofs.grower_calls.grow_bytes.Goals as goal

pub returns-in-Err-clause-refused : goal.returns-in-Err-clause-refused
returns-in-Err-clause-refused g c =
    let width = g.R.Record.form.width in
    let fault = c.in-Err.fault in
    let told = by_length width (phase_of c.args.grower.now) c.args.grower.now.seat (length c.args.bytes.now / width) fault
    (subst (λ w. IsLengthFault width (length c.args.bytes.now / w) fault) c.width_of.ensures.is c.in-Err.ensures) in
    (refl, learns-refl c.args.grower.now.seat, inr (told.0, c.of_block.ensures ∙ told.1, told.2))

pub returns-in_err-records-clause-refused : goal.returns-in_err-records-clause-refused
returns-in_err-records-clause-refused g c =
    let p = err_from_is_err_and c.from_residual.result c.from_residual.ensures.1 in
    let block = subst (λ w. IsBlockLength g.R.Record.form.width (length c.args.bytes.now / w)) c.width_of.ensures.is c.in_default.ensures in
    rw (p.1, p.2) (by_records c.args.bytes.now c.args.grower.now c.in_err-records.field-0.0 block c.in_err-records.ensures.none)

pub returns-in-Ok-clause-refused : goal.returns-in-Ok-clause-refused
returns-in-Ok-clause-refused g c =
    let form = g.R.Record.form in
    let fault = c.in-Err-publish.fault in
    let live = phase_of c.args.grower.now in
    let wide : 0 < form.width = omega (arith, c.width_of.ensures.is, c.width_of.ensures.range) in
    let count = counted form c.args.bytes.now c.in_ok-records.records.items wide c.in_ok-records.ensures.are in
    let block = subst (λ n. IsBlockLength form.width n) (sym count) c.in-Ok.ensures.1 in
    let refused = subst (λ n. IsBookRefusal live c.publish.new.self.seat n fault) (ap length c.in-Ok.ensures.0 ∙ sym count) c.in-Err-publish.ensures.refused in
    (c.publish.ensures.phase, c.in-Err-publish.ensures.grown.1, inr (fault, c.of_growth.ensures, by_book form.width live c.publish.new.self.seat (length c.args.bytes.now / form.width) fault block refused))

pub returns-clause-refused : goal.returns-clause-refused
returns-clause-refused g c =
    let block = subst (λ w. IsBlockLength g.R.Record.form.width (length c.args.bytes.now / w)) c.width_of.ensures.is c.in_default.ensures in
    (refl, learns-refl c.args.grower.now.seat, inr (faults.Memory, refl, block))
