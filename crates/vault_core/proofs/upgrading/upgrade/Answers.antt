use Rattle.std.proofs.Common.{◌≡◌, ◌∙◌, List, subst, sym, refl, true, false, Ok}
use Rattle.disk_core.specs.Calls.{bytes_of}
use Rattle.segment_core.specs.contracts.format.Format.{the_type}
use Rattle.segment_core.specs.declared.format.Format.{Format}
use Rattle.segment_core.specs.declared.format.Format.TheVariants.{One, Two}
use Rattle.vault_core.specs.Upgrading.{IsCopied, IsFileOfFormat}
use Rattle.vault_core.proofs.OldDisks.{back_calls, back_faults, back_model, back_no_fault, back_stays, opened_file}
use Rattle.vault_core.proofs.upgrading.upgrade.Goals as goal
use denote.Enum.Bare.{sameb}

is_one : (format : Format) → false ≡ sameb the_type format Two → format ≡ One
is_one One other = refl
is_one Two other = absurd cc

is_two : (format : Format) → true ≡ sameb the_type format Two → format ≡ Two
is_two One other = absurd cc
is_two Two same = refl

pub returns-in-Ok-copied_to-clause-upgraded : goal.returns-in-Ok-copied_to-clause-upgraded
returns-in-Ok-copied_to-clause-upgraded g c =
    let e = c.in-Ok-copied_to.ensures in (
      (λ kept.
          subst (λ (rs : List g.row.R.Denot). IsFileOfFormat One g.R.Record.form (bytes_of (g.D.Disk.states c.args.old)) rs) (sym e.list)
          (opened_file (c.in-Ok.ensures.opened (subst g.D.Disk.keeps c.into_disk-in-Ok-copied_to.ensures.disk kept)) (sym c.format.ensures ∙ is_one c.format.result c.if-eq.ensures))),
      subst (λ (records : List g.row.R.Denot). IsCopied Two g.R.Record.form g.E.Disk.keeps g.E.Disk.states g.E.Disk.faults c.args.piece records c.args.new (Ok c.in-Ok-copied_to.vault)) (sym e.list) e,
    )

pub returns-in-Ok-copied_to-clause-old_stays : goal.returns-in-Ok-copied_to-clause-old_stays
returns-in-Ok-copied_to-clause-old_stays g c = back_stays g.D.Disk.keeps g.D.Disk.states g.D.Disk.faults c.args.old c.into_disk-in-Ok-copied_to.ensures.disk c.in-Ok.ensures.only_syncs

pub returns-in-Ok-copied_to-clause-old_calls : goal.returns-in-Ok-copied_to-clause-old_calls
returns-in-Ok-copied_to-clause-old_calls g c = back_calls g.D.Disk.keeps g.D.Disk.states g.D.Disk.faults c.args.old c.into_disk-in-Ok-copied_to.ensures.disk c.in-Ok.ensures.time

pub returns-in-Ok-copied_to-clause-old_faults : goal.returns-in-Ok-copied_to-clause-old_faults
returns-in-Ok-copied_to-clause-old_faults g c = back_faults g.D.Disk.keeps g.D.Disk.states g.D.Disk.faults c.args.old c.into_disk-in-Ok-copied_to.ensures.disk c.in-Ok.ensures.faults

pub returns-in-Ok-copied_to-clause-old_model : goal.returns-in-Ok-copied_to-clause-old_model
returns-in-Ok-copied_to-clause-old_model g c = back_model g.D.Disk.keeps g.D.Disk.states g.D.Disk.faults c.args.old c.into_disk-in-Ok-copied_to.ensures.disk c.in-Ok.ensures.model

pub returns-in-Err-copied_to-clause-old_stays : goal.returns-in-Err-copied_to-clause-old_stays
returns-in-Err-copied_to-clause-old_stays g c = back_stays g.D.Disk.keeps g.D.Disk.states g.D.Disk.faults c.args.old c.into_disk-in-Err-copied_to.ensures.disk c.in-Ok.ensures.only_syncs

pub returns-in-Err-copied_to-clause-old_calls : goal.returns-in-Err-copied_to-clause-old_calls
returns-in-Err-copied_to-clause-old_calls g c = back_calls g.D.Disk.keeps g.D.Disk.states g.D.Disk.faults c.args.old c.into_disk-in-Err-copied_to.ensures.disk c.in-Ok.ensures.time

pub returns-in-Err-copied_to-clause-old_faults : goal.returns-in-Err-copied_to-clause-old_faults
returns-in-Err-copied_to-clause-old_faults g c = back_no_fault g.D.Disk.keeps g.D.Disk.states g.D.Disk.faults c.args.old c.into_disk-in-Err-copied_to.ensures.disk c.in-Ok.ensures.faults

pub returns-in-Err-copied_to-clause-old_model : goal.returns-in-Err-copied_to-clause-old_model
returns-in-Err-copied_to-clause-old_model g c = back_model g.D.Disk.keeps g.D.Disk.states g.D.Disk.faults c.args.old c.into_disk-in-Err-copied_to.ensures.disk c.in-Ok.ensures.model

pub returns-in-Err-copied_to-clause-refused : goal.returns-in-Err-copied_to-clause-refused
returns-in-Err-copied_to-clause-refused g c = (
  _,
  (λ kept. opened_file (c.in-Ok.ensures.opened (subst g.D.Disk.keeps c.into_disk-in-Err-copied_to.ensures.disk kept)) (sym c.format.ensures ∙ is_one c.format.result c.if-eq.ensures)),
  c.in-Err-copied_to.ensures,
)

pub returns-then-eq-clause-old_stays : goal.returns-then-eq-clause-old_stays
returns-then-eq-clause-old_stays g c = back_stays g.D.Disk.keeps g.D.Disk.states g.D.Disk.faults c.args.old c.into_disk.ensures.disk c.in-Ok.ensures.only_syncs

pub returns-then-eq-clause-old_calls : goal.returns-then-eq-clause-old_calls
returns-then-eq-clause-old_calls g c = back_calls g.D.Disk.keeps g.D.Disk.states g.D.Disk.faults c.args.old c.into_disk.ensures.disk c.in-Ok.ensures.time

pub returns-then-eq-clause-old_faults : goal.returns-then-eq-clause-old_faults
returns-then-eq-clause-old_faults g c = back_no_fault g.D.Disk.keeps g.D.Disk.states g.D.Disk.faults c.args.old c.into_disk.ensures.disk c.in-Ok.ensures.faults

pub returns-then-eq-clause-old_model : goal.returns-then-eq-clause-old_model
returns-then-eq-clause-old_model g c = back_model g.D.Disk.keeps g.D.Disk.states g.D.Disk.faults c.args.old c.into_disk.ensures.disk c.in-Ok.ensures.model

pub returns-then-eq-clause-refused : goal.returns-then-eq-clause-refused
returns-then-eq-clause-refused g c = (
  (λ kept. (_, opened_file (c.in-Ok.ensures.opened (subst g.D.Disk.keeps c.into_disk.ensures.disk kept)) (sym c.format.ensures ∙ is_two c.format.result c.if-eq.ensures))),
  refl,
)
