use Rattle.disk_core.specs.FileTruth.{untold}
use Rattle.filing_core.proofs.access.disk_over.Given as goal

abbrev pub ghost-over : goal.ghost-over
ghost-over g a = untold
