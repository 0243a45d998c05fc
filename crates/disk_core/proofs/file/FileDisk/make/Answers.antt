use Rattle.disk_core.specs.FileTruth.{untold_bytes}
use Rattle.disk_core.proofs.file.FileDisk.make.Goals as goal

pub returns-clause-keeps : goal.returns-clause-keeps
returns-clause-keeps g c = c.over.ensures.keeps untold_bytes
