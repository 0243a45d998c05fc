use Rattle.std.proofs.Common.{◌≡◌, ℕ, List, subst, sym, Ok}
use Rattle.std.specs.Prelude.{Option}
use Rattle.std.specs.declared.num.NonZeroU32.{NonZeroU32}
use Rattle.std.specs.declared.result.Result.{Result}
use Rattle.record_core.specs.Bytes.{Encoding}
use Rattle.disk_core.specs.State.{State}
use Rattle.disk_core.specs.Calls.{bytes_of}
use Rattle.segment_core.specs.declared.format.Format.{Format}
use Rattle.pen_core.specs.declared.fault.PenFault.{PenFault}
use Rattle.vault_core.specs.Upgrading.{IsCopied, IsCopyOfFile, IsFileOfFormat, IsPieceOfCopy, format_of_copy}
use Rattle.vault_core.specs.Vault.{VaultOf}
use Rattle.vault_core.proofs.OldDisks.{back_calls, back_faults, back_model, back_no_fault, back_stays, opened_file}
use Rattle.vault_core.proofs.upgrading.copy.Goals as goal

-- a copy into the version that was asked for, or into that of the old file
copy_of : {R D : Type 0} (form : Encoding R) (keeps : D → Type 0) (states : D → List State) (failures : D → ℕ) {known : Type 0} {bytes : List ℕ}
    {asked : Option Format} {block : Option NonZeroU32} {records : List R} {disk : D} {result : Result (VaultOf R D) (D × PenFault)}
    (own to : Format) (piece : ℕ) → to ≡ format_of_copy asked own → (known → IsFileOfFormat own form bytes records) → IsPieceOfCopy block to form.width piece
    → IsCopied to form keeps states failures piece records disk result → IsCopyOfFile form known bytes asked block keeps states failures records disk result
copy_of form keeps states failures {block = block} {records = records} {disk = disk} {result = result} own to piece is file piece_is copied = record {
  own = own;
  file = file;
  piece = piece;
  piece_is = subst (λ f. IsPieceOfCopy block f form.width piece) is piece_is;
  copied = subst (λ f. IsCopied f form keeps states failures piece records disk result) is copied;
}

pub returns-in-Ok-copied_to-clause-old_stays : goal.returns-in-Ok-copied_to-clause-old_stays
returns-in-Ok-copied_to-clause-old_stays g c = back_stays g.D.Disk.keeps g.D.Disk.states g.D.Disk.faults c.args.old c.into_disk.ensures.disk c.in-Ok.ensures.only_syncs

pub returns-in-Ok-copied_to-clause-old_calls : goal.returns-in-Ok-copied_to-clause-old_calls
returns-in-Ok-copied_to-clause-old_calls g c = back_calls g.D.Disk.keeps g.D.Disk.states g.D.Disk.faults c.args.old c.into_disk.ensures.disk c.in-Ok.ensures.time

pub returns-in-Ok-copied_to-clause-old_faults : goal.returns-in-Ok-copied_to-clause-old_faults
returns-in-Ok-copied_to-clause-old_faults g c = back_faults g.D.Disk.keeps g.D.Disk.states g.D.Disk.faults c.args.old c.into_disk.ensures.disk c.in-Ok.ensures.faults

pub returns-in-Ok-copied_to-clause-old_model : goal.returns-in-Ok-copied_to-clause-old_model
returns-in-Ok-copied_to-clause-old_model g c = back_model g.D.Disk.keeps g.D.Disk.states g.D.Disk.faults c.args.old c.into_disk.ensures.disk c.in-Ok.ensures.model

pub returns-in-Err-copied_to-clause-old_stays : goal.returns-in-Err-copied_to-clause-old_stays
returns-in-Err-copied_to-clause-old_stays g c = back_stays g.D.Disk.keeps g.D.Disk.states g.D.Disk.faults c.args.old c.into_disk-in-Err-copied_to.ensures.disk c.in-Ok.ensures.only_syncs

pub returns-in-Err-copied_to-clause-old_calls : goal.returns-in-Err-copied_to-clause-old_calls
returns-in-Err-copied_to-clause-old_calls g c = back_calls g.D.Disk.keeps g.D.Disk.states g.D.Disk.faults c.args.old c.into_disk-in-Err-copied_to.ensures.disk c.in-Ok.ensures.time

pub returns-in-Err-copied_to-clause-old_faults : goal.returns-in-Err-copied_to-clause-old_faults
returns-in-Err-copied_to-clause-old_faults g c = back_no_fault g.D.Disk.keeps g.D.Disk.states g.D.Disk.faults c.args.old c.into_disk-in-Err-copied_to.ensures.disk c.in-Ok.ensures.faults

pub returns-in-Err-copied_to-clause-old_model : goal.returns-in-Err-copied_to-clause-old_model
returns-in-Err-copied_to-clause-old_model g c = back_model g.D.Disk.keeps g.D.Disk.states g.D.Disk.faults c.args.old c.into_disk-in-Err-copied_to.ensures.disk c.in-Ok.ensures.model

pub returns-in-Ok-copied_to-clause-copied : goal.returns-in-Ok-copied_to-clause-copied
returns-in-Ok-copied_to-clause-copied g c =
    let e = c.in-Ok-copied_to.ensures in
    subst (λ (records : List g.row.R.Denot).
    IsCopyOfFile g.R.Record.form (g.D.Disk.keeps c.into_disk.result) (bytes_of (g.D.Disk.states c.args.old)) c.args.format c.args.piece
    g.E.Disk.keeps g.E.Disk.states g.E.Disk.faults records c.args.new (Ok c.in-Ok-copied_to.vault)) (sym e.list)
    (copy_of g.R.Record.form g.E.Disk.keeps g.E.Disk.states g.E.Disk.faults c.format.result c.format_of-format.result c.piece_of-piece.result c.format_of-format.ensures
    (λ kept. opened_file (c.in-Ok.ensures.opened (subst g.D.Disk.keeps c.into_disk.ensures.disk kept)) (sym c.format.ensures)) c.piece_of-piece.ensures.is e)

pub returns-in-Err-copied_to-clause-refused : goal.returns-in-Err-copied_to-clause-refused
returns-in-Err-copied_to-clause-refused g c = (
  _,
  copy_of g.R.Record.form g.E.Disk.keeps g.E.Disk.states g.E.Disk.faults c.format.result c.format_of-format.result c.piece_of-piece.result c.format_of-format.ensures
      (λ kept. opened_file (c.in-Ok.ensures.opened (subst g.D.Disk.keeps c.into_disk-in-Err-copied_to.ensures.disk kept)) (sym c.format.ensures))
      c.piece_of-piece.ensures.is c.in-Err-copied_to.ensures,
)
