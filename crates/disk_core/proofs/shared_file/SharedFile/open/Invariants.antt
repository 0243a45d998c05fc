use Rattle.disk_core.specs.SharedTruth.{untold_share}
use Rattle.disk_core.proofs.shared_file.SharedFile.open.Given as goal

abbrev pub ghost-over : goal.ghost-over
ghost-over g a = untold_share
