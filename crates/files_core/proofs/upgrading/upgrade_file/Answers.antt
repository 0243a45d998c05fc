use Rattle.std.proofs.Common.{sym, refl, ap, arith}
use Rattle.files_core.specs.Texts.{upgraded_line}
use Rattle.files_core.specs.Upgraded.{failed_upgrading}
use Rattle.files_core.proofs.Opened.{told_answer, told_counts, told_ends}
use Rattle.files_core.proofs.upgrading.upgrade_file.Goals as goal

pub upgrade-requires-after_bounds : goal.upgrade-requires-after_bounds
upgrade-requires-after_bounds g c κs within = (c.greatest_piece.ensures 1).1 (omega (arith, c.width_of-width.ensures.range.1, c.width_of-width.ensures.is))

pub returns-in-Ok-clause-upgraded : goal.returns-in-Ok-clause-upgraded
returns-in-Ok-clause-upgraded g c = told_ends _ _ _ _ c.told.ensures (
  _,
  record {
    piece = c.greatest_piece.result;
    greatest = c.greatest_piece.ensures;
    vault = c.in-Ok.vault;
    file = c.in-Ok.ensures.upgraded.0;
    copied = c.in-Ok.ensures.upgraded.1;
    disk_is = sym c.into_disk.ensures.disk;
    told = refl;
  },
)

pub returns-in-Ok-clause-writes : goal.returns-in-Ok-clause-writes
returns-in-Ok-clause-writes g c = told_answer _ _ _ _ _ _ c.told.ensures c.write_upgraded-written.ensures (record {
  piece = c.greatest_piece.result;
  greatest = c.greatest_piece.ensures;
  vault = c.in-Ok.vault;
  file = c.in-Ok.ensures.upgraded.0;
  copied = c.in-Ok.ensures.upgraded.1;
  disk_is = sym c.into_disk.ensures.disk;
  told = ap upgraded_line c.len.ensures.is;
})

pub returns-in-Ok-clause-old_calls : goal.returns-in-Ok-clause-old_calls
returns-in-Ok-clause-old_calls g c =
    let calls = c.in-Ok.ensures.old_calls in
    (calls.0, calls.1, told_ends _ _ _ _ c.told.ensures calls.2)

pub returns-in-Ok-clause-old_faults : goal.returns-in-Ok-clause-old_faults
returns-in-Ok-clause-old_faults g c = told_counts g.D.Disk.faults failed_upgrading _ _ _ _ refl refl c.told.ensures c.in-Ok.ensures.old_faults
