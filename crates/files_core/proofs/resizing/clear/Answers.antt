use Rattle.std.proofs.Common.{◌≡◌, [], sym, inl, inr, arith}
use Rattle.files_core.specs.Opened.{IsOpenedOn}
use Rattle.files_core.proofs.Opened.{told_ends, told_text}
use Rattle.files_core.proofs.Changed.{IsTakenFrom, replaced_by, replaced_by_none, empty_or, not_broken}
use Rattle.vault_core.specs.Vault.{list_of}
use Rattle.std.proofs.lemmas.Grind.{common_steps}
use Rattle.files_core.proofs.resizing.clear.Goals as goal

pub returns-in-Ok-clear-clause-cleared : goal.returns-in-Ok-clear-clause-cleared
returns-in-Ok-clear-clause-cleared g c =
    let v = c.in-Ok.vault in
    let e = c.in-Ok.ensures in
    let opened : IsOpenedOn g.R.Record.form g.D.Disk.keeps g.D.Disk.states g.D.Disk.faults c.args.disk c.in-Ok.vault =
    record { rests = e.rests; opened = e.opened; sure = e.sure; only_syncs = e.only_syncs; faults_same = e.faults; model = e.model } in
    let taken : IsTakenFrom g.R.Record.form g.D.Disk.keeps g.D.Disk.states c.clear.new.self c.into_disk.result =
    record { disk = c.into_disk.ensures.disk; images = c.into_disk.ensures.images } in
    let list = c.in-Ok-clear.ensures.list in
    told_ends _ _ _ _ c.told.ensures (elim (empty_or (list_of v)) [
      | inl none ↦ replaced_by_none opened taken (λ was behind. behind ≡ []) list (c.in-Ok-clear.ensures.nothing none).0
      | inr some ↦ replaced_by opened taken (λ was behind. behind ≡ []) list _ _ (c.in-Ok-clear.ensures.command some)
    ])

pub returns-in-Err-clear-clause-cleared : goal.returns-in-Err-clear-clause-cleared
returns-in-Err-clear-clause-cleared g c =
    let v = c.in-Ok.vault in
    let e = c.in-Ok.ensures in
    let opened : IsOpenedOn g.R.Record.form g.D.Disk.keeps g.D.Disk.states g.D.Disk.faults c.args.disk c.in-Ok.vault =
    record { rests = e.rests; opened = e.opened; sure = e.sure; only_syncs = e.only_syncs; faults_same = e.faults; model = e.model } in (
      v,
      c.clear.new.self,
      opened,
      sym c.into_disk-in-Err-clear.ensures.disk,
      record {
        command = elim (empty_or (list_of v)) [
          | inl none ↦ absurd (not_broken g.R.Record.form g.D.Disk.keeps g.D.Disk.states g.D.Disk.faults _ v _ opened (c.in-Err-clear.ensures.nothing none).1)
          | inr some ↦ c.in-Err-clear.ensures.command some
        ];
        list = c.in-Err-clear.ensures.list;
      },
    )

pub returns-in-Ok-clear-clause-written : goal.returns-in-Ok-clear-clause-written
returns-in-Ok-clear-clause-written g c =
    let e = c.in-Ok.ensures in
    let r = c.in-Ok-clear.ensures in
    told_ends _ _ _ _ c.told.ensures (record {
      before = c.in-Ok.vault;
      after = c.clear.new.self;
      opened = record { rests = e.rests; opened = e.opened; sure = e.sure; only_syncs = e.only_syncs; faults_same = e.faults; model = e.model };
      disk_is = sym c.into_disk.ensures.disk;
      kept = c.into_disk.ensures.kept;
      done = record { list = r.list; some = r.command; none = λ none. (r.nothing none).0 };
    })

pub returns-in-Ok-clear-clause-model : goal.returns-in-Ok-clear-clause-model
returns-in-Ok-clear-clause-model g c = grind (arith, common_steps)

pub returns-in-Err-clear-clause-model : goal.returns-in-Err-clear-clause-model
returns-in-Err-clear-clause-model g c = grind (arith, common_steps)

pub returns-in-Ok-clear-clause-writes : goal.returns-in-Ok-clear-clause-writes
returns-in-Ok-clear-clause-writes g c = told_text _ _ _ _ _ c.told.ensures c.write_line.ensures
