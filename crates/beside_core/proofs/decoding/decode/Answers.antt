use Rattle.std.proofs.Common.{◌≡◌, ◌*◌, ◌/◌, ◌++◌, ◌<◌, ℕ, length, refl, sym, ap, subst, ◌∙◌}
use Rattle.std.proofs.Math.Nat.{mul-div_cancel}
use Rattle.record_core.specs.Cells.{AreRecords, FirstBad}
use Rattle.record_core.specs.declared.records.RecordsFault.{RecordsFault}
use Rattle.beside_core.proofs.decoding.decode.Goals as goal

count_by_width : (n count width wide : ℕ) → 0 < width → width ≡ wide → n ≡ count * wide → n / width ≡ count
count_by_width n count width wide some same filled =
    ap (λ n. n / width) (filled ∙ ap (λ w. count * w) (sym same)) ∙ mul-div_cancel count some

pub returns-in-Ok : goal.returns-in-Ok
returns-in-Ok g c = λ count filled.
    let read = c.in-Ok.ensures.ok in
    let is : c.read_records.new.records.items ≡ read.0 = read.1 ∙ ap (λ old. old ++ read.0) c.new-records.ensures.items in (
      ap length is ∙ read.2 ∙ count_by_width (length c.args.bytes.now) count c.width_of.result g.R.Record.form.width c.width_of.ensures.range.0 c.width_of.ensures.is filled,
      subst (AreRecords g.R.Record.form c.args.bytes.now) (sym is) read.3,
    )

pub returns-in-Err-Bad : goal.returns-in-Err-Bad
returns-in-Err-Bad g c = λ count filled.
    let many = count_by_width (length c.args.bytes.now) count c.width_of.result g.R.Record.form.width c.width_of.ensures.range.0 c.width_of.ensures.is filled in
    let bad : FirstBad g.R.Record.form c.args.bytes.now (length c.args.bytes.now / c.width_of.result) (RecordsFault.Bad c.in-Err-Bad.i)
    = subst (FirstBad g.R.Record.form c.args.bytes.now (length c.args.bytes.now / c.width_of.result)) c.in-Err-Bad.field-0-is c.in-Err-Bad.ensures.bad in
    (c.in-Err-Bad.i, refl, subst (λ n. c.in-Err-Bad.i < n) many bad.inside, bad.bad)
