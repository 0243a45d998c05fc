use Rattle.std.proofs.Common.{ap, sym}
use Rattle.segment_core.specs.Written.{joined}
use Rattle.files_core.proofs.Opened.{opens_same, same_keeps}
use Rattle.filing_core.proofs.creating.make.Goals as goal

pub returns-in-Ok : goal.returns-in-Ok
returns-in-Ok g c = record {
  vault = c.in-Ok.vault;
  made = c.in-Ok.ensures;
  disk_is = sym c.into_disk.ensures.disk;
  settled =
      λ model image is. opens_same _ _ _ _ image (c.in-Ok.ensures.sure (same_keeps g.D.Disk.keeps _ _ c.into_disk.ensures.disk model))
      (ap joined c.in-Ok.ensures.created.1) (c.into_disk.ensures.images model image is);
}
