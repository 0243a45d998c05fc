use Rattle.std.proofs.Common.{ap, sym}
use Rattle.segment_core.specs.Written.{joined}
use Rattle.files_core.proofs.Opened.{told_ends, opens_same, same_keeps}
use Rattle.text_core.proofs.Written.{keeps_same}
use Rattle.files_core.proofs.creating.create.Goals as goal

pub returns-in-Ok-clause-created : goal.returns-in-Ok-clause-created
returns-in-Ok-clause-created g c = told_ends _ _ _ _ c.told.ensures (record {
  vault = c.in-Ok.vault;
  made = c.in-Ok.ensures;
  disk_is = sym c.into_disk.ensures.disk;
  settled =
      λ model image is. opens_same _ _ _ _ image (c.in-Ok.ensures.sure (same_keeps g.D.Disk.keeps _ _ c.into_disk.ensures.disk model))
      (ap joined c.in-Ok.ensures.created.1) (c.into_disk.ensures.images model image is);
})

pub returns-in-Err-clause-writes : goal.returns-in-Err-clause-writes
returns-in-Err-clause-writes g c = keeps_same (g.W.Write.contents c.args.writer.now)
