use Rattle.disk_core.specs.FileTruth.{untold_bytes}
use Rattle.filing_core.proofs.access.disk_over.Goals as goal

pub returns-clause-keeps : goal.returns-clause-keeps
returns-clause-keeps g c = c.over.ensures.keeps untold_bytes
