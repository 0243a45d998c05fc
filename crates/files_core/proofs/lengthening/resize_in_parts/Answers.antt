use Rattle.std.proofs.Common.{sym}
use Rattle.files_core.specs.Opened.{IsOpenedOn}
use Rattle.files_core.proofs.Changed.{IsTakenFrom}
use Rattle.files_core.proofs.Lengthened.{lengthened_before, lengthened_whole, refused_before, refused_in_part}
use Rattle.files_core.proofs.Opened.{told_ends}
use Rattle.files_core.proofs.lengthening.resize_in_parts.Goals as goal

pub returns-in-Ok-lengthen-clause-resized : goal.returns-in-Ok-lengthen-clause-resized
returns-in-Ok-lengthen-clause-resized g c =
    let v = c.in-Ok.vault in
    let e = c.in-Ok.ensures in
    let opened : IsOpenedOn g.R.Record.form g.D.Disk.keeps g.D.Disk.states g.D.Disk.faults c.args.disk c.in-Ok.vault =
    record { rests = e.rests; opened = e.opened; sure = e.sure; only_syncs = e.only_syncs; faults_same = e.faults; model = e.model } in
    let taken : IsTakenFrom g.R.Record.form g.D.Disk.keeps g.D.Disk.states c.lengthen.new.vault c.into_disk.result =
    record { disk = c.into_disk.ensures.disk; images = c.into_disk.ensures.images } in
    told_ends _ _ _ _ c.told.ensures
    (λ model. lengthened_whole c.args.asked.now.len c.args.asked.now.filler opened c.lengthen.new.vault c.into_disk.result taken model c.in-Ok-lengthen.ensures.done)

pub returns-in-Err-lengthen-clause-resized : goal.returns-in-Err-lengthen-clause-resized
returns-in-Err-lengthen-clause-resized g c =
    let v = c.in-Ok.vault in
    let e = c.in-Ok.ensures in
    let opened : IsOpenedOn g.R.Record.form g.D.Disk.keeps g.D.Disk.states g.D.Disk.faults c.args.disk c.in-Ok.vault =
    record { rests = e.rests; opened = e.opened; sure = e.sure; only_syncs = e.only_syncs; faults_same = e.faults; model = e.model } in
    let taken : IsTakenFrom g.R.Record.form g.D.Disk.keeps g.D.Disk.states c.lengthen.new.vault c.into_disk-in-Err-lengthen.result =
    record { disk = c.into_disk-in-Err-lengthen.ensures.disk; images = c.into_disk-in-Err-lengthen.ensures.images } in
    let refused = c.in-Err-lengthen.ensures.refused in (
      λ model. refused_in_part c.args.asked.now.len c.args.asked.now.filler opened c.lengthen.new.vault c.into_disk-in-Err-lengthen.result taken model c.in-Err-lengthen.fault refused,
      (v, c.lengthen.new.vault, opened, sym c.into_disk-in-Err-lengthen.ensures.disk, refused),
    )

pub returns-in-Ok-lengthen-clause-written : goal.returns-in-Ok-lengthen-clause-written
returns-in-Ok-lengthen-clause-written g c =
    let e = c.in-Ok.ensures in
    told_ends _ _ _ _ c.told.ensures (record {
      before = c.in-Ok.vault;
      after = c.lengthen.new.vault;
      opened = record { rests = e.rests; opened = e.opened; sure = e.sure; only_syncs = e.only_syncs; faults_same = e.faults; model = e.model };
      disk_is = sym c.into_disk.ensures.disk;
      kept = c.into_disk.ensures.kept;
      done = c.in-Ok-lengthen.ensures.done;
    })

pub returns-in-Ok-lengthen-clause-model : goal.returns-in-Ok-lengthen-clause-model
returns-in-Ok-lengthen-clause-model g c = λ model.
    let e = c.in-Ok.ensures in
    let opened : IsOpenedOn g.R.Record.form g.D.Disk.keeps g.D.Disk.states g.D.Disk.faults c.args.disk c.in-Ok.vault =
    record { rests = e.rests; opened = e.opened; sure = e.sure; only_syncs = e.only_syncs; faults_same = e.faults; model = e.model } in
    let taken : IsTakenFrom g.R.Record.form g.D.Disk.keeps g.D.Disk.states c.lengthen.new.vault c.into_disk.result =
    record { disk = c.into_disk.ensures.disk; images = c.into_disk.ensures.images } in
    e.model (lengthened_before c.args.asked.now.len c.args.asked.now.filler opened c.lengthen.new.vault c.into_disk.result taken model c.in-Ok-lengthen.ensures.done)

pub returns-in-Err-lengthen-clause-model : goal.returns-in-Err-lengthen-clause-model
returns-in-Err-lengthen-clause-model g c = λ model.
    let e = c.in-Ok.ensures in
    let opened : IsOpenedOn g.R.Record.form g.D.Disk.keeps g.D.Disk.states g.D.Disk.faults c.args.disk c.in-Ok.vault =
    record { rests = e.rests; opened = e.opened; sure = e.sure; only_syncs = e.only_syncs; faults_same = e.faults; model = e.model } in
    let taken : IsTakenFrom g.R.Record.form g.D.Disk.keeps g.D.Disk.states c.lengthen.new.vault c.into_disk-in-Err-lengthen.result =
    record { disk = c.into_disk-in-Err-lengthen.ensures.disk; images = c.into_disk-in-Err-lengthen.ensures.images } in
    e.model (refused_before c.args.asked.now.len c.args.asked.now.filler opened c.lengthen.new.vault c.into_disk-in-Err-lengthen.result taken model c.in-Err-lengthen.fault
    c.in-Err-lengthen.ensures.refused)
