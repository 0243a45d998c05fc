use Rattle.std.proofs.Common.{◌≡◌, ◌≤◌, ◌+◌, ◌*◌, ◌∙◌, ℕ, List, subst, sym, inl, inr, arith, Ok, Err}
use Rattle.std.proofs.lemmas.Result.{err_from_is_err_and}
use Rattle.segment_core.specs.declared.format.Shape.{Shape}
use Rattle.segment_core.specs.Shape.{limit_of, shape_of}
use Rattle.pen_core.specs.Births.{StaysUnbornOrEmpty}
use Rattle.pen_core.specs.Pen.{IsKept}
use Rattle.vault_core.specs.Upgrading.{IsCopied}
use Rattle.vault_core.proofs.Devices.{device_of}
use Rattle.vault_core.proofs.NewFiles.{IsBegunOn, IsGrownOn, HasAll, born_stays, only_block, stopped_copied, all_kept, all_copied}
use Rattle.vault_core.specs.Vault.{vault_of}
use Rattle.std.proofs.lemmas.Grind.{common_steps}
use Rattle.vault_core.proofs.upgrading.copied_to.Goals as goal

pub returns-in_err-pen : goal.returns-in_err-pen
returns-in_err-pen g c =
    let e = c.in_err-pen.ensures in
    let form = g.R.Record.form in
    let p = err_from_is_err_and c.from_residual.result c.from_residual.ensures.1 in
    let fits : 8 + c.args.piece * form.width ≤ limit_of c.args.format = (c.greatest_piece.ensures c.args.piece).0 c.if-piece-greatest_piece.false in
    let shape : ℕ → Shape = λ w. record { format = c.args.format; width = w } in
    rw (p.1, p.2) record {
      list = tt;
      written = tt;
      fits = tt;
      sure = tt;
      opens = tt;
      stays = λ kept. born_stays c.args.format form c.args.piece c.args.records.items (g.D.Disk.states c.args.disk) (g.D.Disk.states c.in_err-pen.field-0.0.0)
          (subst (λ w. StaysUnbornOrEmpty (shape w) (g.D.Disk.states c.args.disk) (g.D.Disk.states c.in_err-pen.field-0.0.0)) c.width_of.ensures.is (e.born kept));
      none_existed = tt;
      existed = e.existed;
      exists = e.exists;
      refused = inr (fits, elim e.refused [ inl memory ↦ inl memory | inr made ↦ inr (inl (made, e.calls)) ]);
      calls = tt;
      time = (let early = e.time in omega (arith, early));
      failed = e.faults;
      model = e.model;
    }

pub returns-in-Err : goal.returns-in-Err
returns-in-Err g c =
    let e = c.in_ok-pen.ensures in
    let w = c.in-Err.ensures in
    let form = g.R.Record.form in
    let device = device_of g.D.Disk.keeps g.D.Disk.states g.D.Disk.faults in
    let rs = c.as_slice-2.result.now in
    let disk = c.args.disk in
    let fits : 8 + c.args.piece * form.width ≤ limit_of c.args.format = (c.greatest_piece.ensures c.args.piece).0 c.if-piece-greatest_piece.false in
    let same : rs ≡ c.args.records.items =
    c.as_slice-2.ensures.value ∙ only_block c.as_slice.result.now c.index-as_slice-0.result c.in-Ok.blocks c.args.records.items c.as_slice.ensures
    c.in-Ok.ensures.one c.in-Ok.ensures.whole c.index-as_slice-0.is in
    let shape : ℕ → Shape = λ v. record { format = c.args.format; width = v } in
    let begun : IsBegunOn device (shape_of c.args.format form) disk c.in_ok-pen.pen.disk = record {
      born = λ kept. subst (λ v. StaysUnbornOrEmpty (shape v) (g.D.Disk.states disk) (g.D.Disk.states c.in_ok-pen.pen.disk)) c.width_of.ensures.is (e.born kept);
      none_existed = e.none_existed;
      time = e.time;
      calls = e.calls;
      no_fault = e.faults;
      model = e.model;
    } in
    let grown : IsGrownOn c.args.format form device c.args.piece rs disk c.in_ok-pen.pen.disk c.write_growths.new.pen.disk =
    record { begun = begun; fits = fits; images = w.images; model = w.model } in
    rw c.into_disk.ensures.disk (
    subst (λ (list : List g.row.R.Denot). IsCopied c.args.format form g.D.Disk.keeps g.D.Disk.states g.D.Disk.faults c.args.piece list disk (Err (c.write_growths.new.pen.disk, c.in-Err.fault))) same
    (stopped_copied grown c.in-Err.fault w.refused w.faults))

pub invariant_of-result : goal.invariant_of-result
invariant_of-result g c =
    let w = c.in_default-write_growths.ensures in
    let pen = c.write_growths.new.pen in
    let rs = c.as_slice-2.result.now in
    let same : rs ≡ c.args.records.items =
    c.as_slice-2.ensures.value ∙ only_block c.as_slice.result.now c.index-as_slice-0.result c.in-Ok.blocks c.args.records.items c.as_slice.ensures
    c.in-Ok.ensures.one c.in-Ok.ensures.whole c.index-as_slice-0.is in
    let has : HasAll c.args.format g.R.Record.form (g.D.Disk.keeps pen.disk) c.args.piece rs pen c.in-Ok.blocks =
    record { some = c.requires.some; written = w.written; cells = w.cells; list = c.in-Ok.ensures.whole ∙ sym same } in
    all_kept has

pub returns : goal.returns
returns g c =
    let e = c.in_ok-pen.ensures in
    let w = c.in_default-write_growths.ensures in
    let form = g.R.Record.form in
    let device = device_of g.D.Disk.keeps g.D.Disk.states g.D.Disk.faults in
    let rs = c.as_slice-2.result.now in
    let disk = c.args.disk in
    let pen = c.write_growths.new.pen in
    let fits : 8 + c.args.piece * form.width ≤ limit_of c.args.format = (c.greatest_piece.ensures c.args.piece).0 c.if-piece-greatest_piece.false in
    let same : rs ≡ c.args.records.items =
    c.as_slice-2.ensures.value ∙ only_block c.as_slice.result.now c.index-as_slice-0.result c.in-Ok.blocks c.args.records.items c.as_slice.ensures
    c.in-Ok.ensures.one c.in-Ok.ensures.whole c.index-as_slice-0.is in
    let shape : ℕ → Shape = λ v. record { format = c.args.format; width = v } in
    let begun : IsBegunOn device (shape_of c.args.format form) disk c.in_ok-pen.pen.disk = record {
      born = λ kept. subst (λ v. StaysUnbornOrEmpty (shape v) (g.D.Disk.states disk) (g.D.Disk.states c.in_ok-pen.pen.disk)) c.width_of.ensures.is (e.born kept);
      none_existed = e.none_existed;
      time = e.time;
      calls = e.calls;
      no_fault = e.faults;
      model = e.model;
    } in
    let grown : IsGrownOn c.args.format form device c.args.piece rs disk c.in_ok-pen.pen.disk pen.disk =
    record { begun = begun; fits = fits; images = w.images; model = w.model } in
    let has : HasAll c.args.format form (g.D.Disk.keeps pen.disk) c.args.piece rs pen c.in-Ok.blocks =
    record { some = c.requires.some; written = w.written; cells = w.cells; list = c.in-Ok.ensures.whole ∙ sym same } in
    subst (λ (list : List g.row.R.Denot). IsCopied c.args.format form g.D.Disk.keeps g.D.Disk.states g.D.Disk.faults c.args.piece list disk
    (Ok (vault_of form pen c.in-Ok.blocks))) same
    (all_copied grown has w.time w.faults
    (subst (λ (d : g.row.D.Denot). g.D.Disk.keeps d → IsKept (g.D.Disk.states d) pen) c.disk-disk.ensures.disk c.disk-disk.ensures.kept))

pub bounds-as_slice-0 : goal.bounds-as_slice-0
bounds-as_slice-0 g c = grind (arith, common_steps)

pub write_growths-requires-clause-few : goal.write_growths-requires-clause-few
write_growths-requires-clause-few g c κs within = grind (arith, common_steps)
