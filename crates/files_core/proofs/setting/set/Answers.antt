use Rattle.std.proofs.Common.{List, length, sym, subst, inl, inr}
use Rattle.pen_core.specs.Refusals.{one_run}
use Rattle.vault_core.specs.Touched.{IsTouched}
use Rattle.vault_core.proofs.Kept.{holds}
use Rattle.files_core.specs.Given.{given_from}
use Rattle.files_core.specs.Writable.{IsNotPut, IsPutFrom, vault_with}
use Rattle.files_core.proofs.Opened.{told_ends}
use Rattle.files_core.proofs.Changed.{IsTakenFrom, empty_or, replaced_by, replaced_by_none}
use Rattle.files_core.proofs.setting.set.Goals as goal

pub returns-in-Ok-put-clause-set : goal.returns-in-Ok-put-clause-set
returns-in-Ok-put-clause-set g c =
    let opened = c.in-Ok.ensures.opened in
    let start = c.args.asked.now.start in
    let records = c.args.asked.now.records.items in
    let done : IsPutFrom g.R.Record.form g.D.Disk.keeps g.D.Disk.states g.D.Disk.faults start records opened.records c.in-Ok.pen c.put.new.pen =
    subst (λ (rs : List g.row.R.Denot). IsPutFrom g.R.Record.form g.D.Disk.keeps g.D.Disk.states g.D.Disk.faults start rs opened.records c.in-Ok.pen c.put.new.pen) c.as_slice.ensures.value
    (c.in-Ok-put.ensures.put opened.records opened.kept) in
    let w = vault_with g.R.Record.form c.put.new.pen done.behind in
    let taken : IsTakenFrom g.R.Record.form g.D.Disk.keeps g.D.Disk.states w c.into_disk.result =
    record {
      disk = c.into_disk.ensures.disk;
      images = λ model image is. holds g.R.Record.form (g.D.Disk.keeps c.put.new.pen.disk) w done.kept (subst g.D.Disk.keeps c.into_disk.ensures.disk model) image
          ((c.into_disk.ensures.kept model).images_open image is);
    } in
    told_ends _ _ _ _ c.told.ensures (elim (empty_or records) [
      | inl none ↦ replaced_by_none opened.opened taken (IsTouched (given_from start records) (one_run start (length records))) done.set.list (done.set.none none)
      | inr some ↦ replaced_by opened.opened taken (IsTouched (given_from start records) (one_run start (length records))) done.set.list _ _ (done.set.some some)
    ])

pub returns-in-Err-put-clause-set : goal.returns-in-Err-put-clause-set
returns-in-Err-put-clause-set g c =
    let opened = c.in-Ok.ensures.opened in
    let start = c.args.asked.now.start in
    let fault = c.in-Err-put.fault in
    let failed : IsNotPut g.R.Record.form g.D.Disk.keeps g.D.Disk.states g.D.Disk.faults start c.args.asked.now.records.items opened.records c.in-Ok.pen c.put.new.pen fault =
    subst (λ (rs : List g.row.R.Denot). IsNotPut g.R.Record.form g.D.Disk.keeps g.D.Disk.states g.D.Disk.faults start rs opened.records c.in-Ok.pen c.put.new.pen fault) c.as_slice.ensures.value
    (c.in-Err-put.ensures.put opened.records opened.kept) in (
      vault_with g.R.Record.form c.in-Ok.pen opened.records,
      vault_with g.R.Record.form c.put.new.pen failed.behind,
      opened.opened,
      sym c.into_disk-in-Err-put.ensures.disk,
      failed.refused,
    )

pub returns-in-Ok-put-clause-written : goal.returns-in-Ok-put-clause-written
returns-in-Ok-put-clause-written g c =
    let opened = c.in-Ok.ensures.opened in
    let start = c.args.asked.now.start in
    let done : IsPutFrom g.R.Record.form g.D.Disk.keeps g.D.Disk.states g.D.Disk.faults start c.args.asked.now.records.items opened.records c.in-Ok.pen c.put.new.pen =
    subst (λ (rs : List g.row.R.Denot). IsPutFrom g.R.Record.form g.D.Disk.keeps g.D.Disk.states g.D.Disk.faults start rs opened.records c.in-Ok.pen c.put.new.pen) c.as_slice.ensures.value
    (c.in-Ok-put.ensures.put opened.records opened.kept) in
    told_ends _ _ _ _ c.told.ensures (record {
      before = vault_with g.R.Record.form c.in-Ok.pen opened.records;
      after = vault_with g.R.Record.form c.put.new.pen done.behind;
      opened = opened.opened;
      disk_is = sym c.into_disk.ensures.disk;
      kept = c.into_disk.ensures.kept;
      done = done.set;
    })

pub returns-in-Ok-put-clause-model : goal.returns-in-Ok-put-clause-model
returns-in-Ok-put-clause-model g c = λ model. c.in-Ok.ensures.opened.opened.model (c.put.ensures.model (subst g.D.Disk.keeps c.into_disk.ensures.disk model))

pub returns-in-Err-put-clause-model : goal.returns-in-Err-put-clause-model
returns-in-Err-put-clause-model g c = λ model. c.in-Ok.ensures.opened.opened.model (c.put.ensures.model (subst g.D.Disk.keeps c.into_disk-in-Err-put.ensures.disk model))
