use Rattle.std.proofs.Common.{◌≡◌, length, sym, inl, inr}
use Rattle.vault_core.specs.Commands.{resized}
use Rattle.vault_core.specs.Vault.{list_of}
use Rattle.files_core.specs.Opened.{IsOpenedOn}
use Rattle.files_core.proofs.Opened.{told_ends, told_text}
use Rattle.text_core.proofs.Written.{keeps_same}
use Rattle.files_core.proofs.Changed.{IsTakenFrom, replaced_by, replaced_by_none, three_ways, not_broken}
use Rattle.files_core.proofs.resizing.resize.Goals as goal

pub returns-in-Ok-resize-clause-resized : goal.returns-in-Ok-resize-clause-resized
returns-in-Ok-resize-clause-resized g c =
    let v = c.in-Ok.vault in
    let e = c.in-Ok.ensures in
    let n = c.args.asked.now.len in
    let opened : IsOpenedOn g.R.Record.form g.D.Disk.keeps g.D.Disk.states g.D.Disk.faults c.args.disk c.in-Ok.vault =
    record { rests = e.rests; opened = e.opened; sure = e.sure; only_syncs = e.only_syncs; faults_same = e.faults; model = e.model } in
    let taken : IsTakenFrom g.R.Record.form g.D.Disk.keeps g.D.Disk.states c.resize.new.self c.into_disk.result =
    record { disk = c.into_disk.ensures.disk; images = c.into_disk.ensures.images } in
    let filler = c.args.asked.now.filler in
    let list = c.in-Ok-resize.ensures.list in
    told_ends _ _ _ _ c.told.ensures (elim (three_ways (length (list_of v)) n) [
      | inl up ↦ replaced_by opened taken (λ was behind. behind ≡ resized n filler was) list _ _ (c.in-Ok-resize.ensures.up up)
      | inr (inl down) ↦ replaced_by opened taken (λ was behind. behind ≡ resized n filler was) list _ _ (c.in-Ok-resize.ensures.down down)
      | inr (inr same) ↦ replaced_by_none opened taken (λ was behind. behind ≡ resized n filler was) list (c.in-Ok-resize.ensures.nothing (sym same)).0
    ])

pub returns-in-Err-resize-clause-resized : goal.returns-in-Err-resize-clause-resized
returns-in-Err-resize-clause-resized g c =
    let v = c.in-Ok.vault in
    let e = c.in-Ok.ensures in
    let opened : IsOpenedOn g.R.Record.form g.D.Disk.keeps g.D.Disk.states g.D.Disk.faults c.args.disk c.in-Ok.vault =
    record { rests = e.rests; opened = e.opened; sure = e.sure; only_syncs = e.only_syncs; faults_same = e.faults; model = e.model } in (
      v,
      c.resize.new.self,
      opened,
      sym c.into_disk-in-Err-resize.ensures.disk,
      record {
        up = c.in-Err-resize.ensures.up;
        down = c.in-Err-resize.ensures.down;
        list = c.in-Err-resize.ensures.list;
        other = λ same. not_broken g.R.Record.form g.D.Disk.keeps g.D.Disk.states g.D.Disk.faults _ v _ opened (c.in-Err-resize.ensures.nothing same).1;
      },
    )

pub returns-in-Ok-resize-clause-written : goal.returns-in-Ok-resize-clause-written
returns-in-Ok-resize-clause-written g c =
    let e = c.in-Ok.ensures in
    let r = c.in-Ok-resize.ensures in
    told_ends _ _ _ _ c.told.ensures (record {
      before = c.in-Ok.vault;
      after = c.resize.new.self;
      opened = record { rests = e.rests; opened = e.opened; sure = e.sure; only_syncs = e.only_syncs; faults_same = e.faults; model = e.model };
      disk_is = sym c.into_disk.ensures.disk;
      kept = c.into_disk.ensures.kept;
      done = record { list = r.list; up = r.up; down = r.down; same = λ same. (r.nothing same).0 };
    })

pub returns-in-Ok-resize-clause-writes : goal.returns-in-Ok-resize-clause-writes
returns-in-Ok-resize-clause-writes g c = told_text _ _ _ _ _ c.told.ensures c.write_line.ensures

pub returns-in-Err-resize-clause-writes : goal.returns-in-Err-resize-clause-writes
returns-in-Err-resize-clause-writes g c = keeps_same (g.W.Write.contents c.args.writer.now)
