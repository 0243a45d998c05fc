use Rattle.std.proofs.Common.{sym, refl, ap}
use Rattle.files_core.specs.Texts.{copied_line}
use Rattle.files_core.specs.Upgraded.{failed_upgrading}
use Rattle.files_core.proofs.Opened.{told_answer, told_counts, told_ends}
use Rattle.files_core.proofs.upgrading.copy_file.Goals as goal

pub returns-in-Ok-clause-copied : goal.returns-in-Ok-clause-copied
returns-in-Ok-clause-copied g c =
    told_ends _ _ _ _ c.told.ensures (_, record { vault = c.in-Ok.vault; copied = c.in-Ok.ensures.copied; disk_is = sym c.into_disk.ensures.disk; told = refl })

pub returns-in-Ok-clause-writes : goal.returns-in-Ok-clause-writes
returns-in-Ok-clause-writes g c = told_answer _ _ _ _ _ _ c.told.ensures c.write_copied-written.ensures (record {
  vault = c.in-Ok.vault;
  copied = c.in-Ok.ensures.copied;
  disk_is = sym c.into_disk.ensures.disk;
  told = ap copied_line c.len.ensures.is;
})

pub returns-in-Ok-clause-old_calls : goal.returns-in-Ok-clause-old_calls
returns-in-Ok-clause-old_calls g c =
    let calls = c.in-Ok.ensures.old_calls in
    (calls.0, calls.1, told_ends _ _ _ _ c.told.ensures calls.2)

pub returns-in-Ok-clause-old_faults : goal.returns-in-Ok-clause-old_faults
returns-in-Ok-clause-old_faults g c = told_counts g.D.Disk.faults failed_upgrading _ _ _ _ refl refl c.told.ensures c.in-Ok.ensures.old_faults
