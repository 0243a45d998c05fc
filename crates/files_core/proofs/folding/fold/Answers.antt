use Rattle.std.proofs.Common.{List, ℕ, ◌+◌, refl, sym, subst, ap, ◌∙◌}
use Rattle.disk_core.specs.Moments.{LeavesOnly}
use Rattle.pen_core.specs.Opening.{IsOpenRefusal, failed_openings}
use Rattle.pen_core.proofs.Pieces.{bytes_stay}
use Rattle.vault_core.specs.Commands.{failed}
use Rattle.vault_core.specs.Vault.{MayHold}
use Rattle.files_core.specs.Folding.{failed_folding}
use Rattle.files_core.specs.Opened.{IsOpenedOn}
use Rattle.files_core.specs.Texts.{folded_line}
use Rattle.files_core.proofs.Opened.{told_answer, told_counts, told_ends, opened_again}
use Rattle.text_core.proofs.Written.{keeps_same}
use Rattle.files_core.proofs.Folded.{stays_by}
use Rattle.files_core.proofs.folding.fold.Goals as goal

pub returns-in-Err-clause-stays : goal.returns-in-Err-clause-stays
returns-in-Err-clause-stays g c = ((λ model. (c.in-Err.ensures.refused model, (c.in-Err.ensures.only_syncs model).left_before)), c.in-Err.ensures.faults)

pub returns-in-Err-open-clause-stays : goal.returns-in-Err-open-clause-stays
returns-in-Err-open-clause-stays g c = (
  (λ model.
      let e = c.in-Err-open.ensures in
      let mid = e.model model in
      let first = c.count_live.ensures.only_syncs mid in (
        subst (λ (bs : List ℕ). IsOpenRefusal g.R.Record.form bs c.in-Err-open.fault) (bytes_stay (g.D.Disk.states c.args.disk) (g.D.Disk.states c.count_live.new.disk) first) (e.refused model),
        opened_again (g.D.Disk.states c.args.disk) (g.D.Disk.states c.count_live.new.disk) (g.D.Disk.states c.in-Err-open.disk)
            (g.met.D.Disk.reads_an_image c.args.disk (c.count_live.ensures.model mid)) first (e.only_syncs model),
      )),
  c.in-Err-open.ensures.faults ∙ ap (λ n. n + failed_openings c.in-Err-open.fault) c.in-Ok.ensures.faults,
)

pub returns-in-Ok-fold_vault-clause-stays : goal.returns-in-Ok-fold_vault-clause-stays
returns-in-Ok-fold_vault-clause-stays g c =
    let e = c.in-Ok-open.ensures in
    let opened : IsOpenedOn g.R.Record.form g.D.Disk.keeps g.D.Disk.states g.D.Disk.faults c.count_live.new.disk c.in-Ok-open.vault =
    record { rests = e.rests; opened = e.opened; sure = e.sure; only_syncs = e.only_syncs; faults_same = e.faults; model = e.model } in
    told_ends _ _ _ _ c.told.ensures (λ model.
    let own = subst g.D.Disk.keeps c.into_disk.ensures.disk model in
    let before = c.fold_vault.ensures.model own in
    stays_by g.R.Record.form g.D.Disk.keeps g.D.Disk.states c.args.disk c.count_live.new.disk c.into_disk.result c.in-Ok-open.vault
    (g.met.D.Disk.reads_an_image c.args.disk (c.count_live.ensures.model (e.model before))) (c.count_live.ensures.only_syncs (e.model before)) opened
    before
    (subst (λ d. LeavesOnly (g.D.Disk.states c.in-Ok-open.vault.pen.disk) (g.D.Disk.states d) (MayHold g.R.Record.form c.in-Ok-open.vault))
    (sym c.into_disk.ensures.disk) (c.fold_vault.ensures.images own)))

pub returns-in-Ok-fold_vault-clause-writes : goal.returns-in-Ok-fold_vault-clause-writes
returns-in-Ok-fold_vault-clause-writes g c = told_answer _ _ _ _ _ _ c.told.ensures c.write_folded.ensures (record {
  scanned = c.in-Ok.ensures.found.0;
  scan = λ model. c.in-Ok.ensures.found.1 (c.in-Ok-open.ensures.model (c.fold_vault.ensures.model (subst g.D.Disk.keeps c.into_disk.ensures.disk model)));
  told = ap folded_line c.in-Ok.ensures.found.2;
})

pub returns-in-Err-fold_vault-clause-stays : goal.returns-in-Err-fold_vault-clause-stays
returns-in-Err-fold_vault-clause-stays g c =
    let e = c.in-Ok-open.ensures in
    let opened : IsOpenedOn g.R.Record.form g.D.Disk.keeps g.D.Disk.states g.D.Disk.faults c.count_live.new.disk c.in-Ok-open.vault =
    record { rests = e.rests; opened = e.opened; sure = e.sure; only_syncs = e.only_syncs; faults_same = e.faults; model = e.model } in
    record {
      scanned = c.count_live.new.disk;
      vault = c.in-Ok-open.vault;
      pen = c.fold_vault.new.vault.pen;
      only_syncs = c.count_live.ensures.only_syncs;
      no_fault = c.in-Ok.ensures.faults;
      opened = opened;
      disk_is = sym c.into_disk-in-Err-fold_vault.ensures.disk;
      why = c.in-Err-fold_vault.ensures.refused;
      faults_are = ap g.D.Disk.faults c.into_disk-in-Err-fold_vault.ensures.disk ∙ c.in-Err-fold_vault.ensures.faults
          ∙ ap (λ n. n + failed c.in-Err-fold_vault.fault) (e.faults ∙ c.in-Ok.ensures.faults);
      stays = λ model.
          let own = subst g.D.Disk.keeps c.into_disk-in-Err-fold_vault.ensures.disk model in
          let before = c.fold_vault.ensures.model own in
          stays_by g.R.Record.form g.D.Disk.keeps g.D.Disk.states c.args.disk c.count_live.new.disk c.into_disk-in-Err-fold_vault.result
          c.in-Ok-open.vault (g.met.D.Disk.reads_an_image c.args.disk (c.count_live.ensures.model (e.model before)))
          (c.count_live.ensures.only_syncs (e.model before)) opened before
          (subst (λ d. LeavesOnly (g.D.Disk.states c.in-Ok-open.vault.pen.disk) (g.D.Disk.states d) (MayHold g.R.Record.form c.in-Ok-open.vault))
          (sym c.into_disk-in-Err-fold_vault.ensures.disk) (c.fold_vault.ensures.images own));
    }

pub returns-in-Ok-fold_vault-clause-none_live : goal.returns-in-Ok-fold_vault-clause-none_live
returns-in-Ok-fold_vault-clause-none_live g c = told_ends _ _ _ _ c.told.ensures (record {
  pen = c.fold_vault.new.vault.pen;
  disk_is = sym c.into_disk.ensures.disk;
  folded = c.in-Ok-fold_vault.ensures.folded c.in-Ok-open.ensures.rests.no_job;
  kept = c.into_disk.ensures.kept;
})

pub returns-in-Ok-fold_vault-clause-faults : goal.returns-in-Ok-fold_vault-clause-faults
returns-in-Ok-fold_vault-clause-faults g c =
    told_counts g.D.Disk.faults failed_folding _ _ _ _ refl refl c.told.ensures
    (ap g.D.Disk.faults c.into_disk.ensures.disk ∙ c.in-Ok-fold_vault.ensures.faults ∙ c.in-Ok-open.ensures.faults ∙ c.in-Ok.ensures.faults)

pub returns-in-Err-fold_vault-clause-faults : goal.returns-in-Err-fold_vault-clause-faults
returns-in-Err-fold_vault-clause-faults g c = ap g.D.Disk.faults c.into_disk-in-Err-fold_vault.ensures.disk ∙ c.in-Err-fold_vault.ensures.faults
    ∙ ap (λ n. n + failed c.in-Err-fold_vault.fault) (c.in-Ok-open.ensures.faults ∙ c.in-Ok.ensures.faults)

pub returns-in-Err-open-clause-faults : goal.returns-in-Err-open-clause-faults
returns-in-Err-open-clause-faults g c = c.in-Err-open.ensures.faults ∙ ap (λ n. n + failed_openings c.in-Err-open.fault) c.in-Ok.ensures.faults

pub returns-in-Err-fold_vault-clause-writes : goal.returns-in-Err-fold_vault-clause-writes
returns-in-Err-fold_vault-clause-writes g c = keeps_same (g.W.Write.contents c.args.writer.now)
