use Rattle.disk_core.specs.SharedTruth.{untold_share}
use Rattle.filing_core.proofs.access.shared.Given as goal

abbrev pub ghost-over : goal.ghost-over
ghost-over g a = untold_share
