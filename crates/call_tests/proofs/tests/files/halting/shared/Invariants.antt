use Rattle.disk_core.specs.SharedTruth.{untold_share}
use Rattle.call_tests.proofs.tests.files.halting.shared.Given as goal

abbrev pub ghost-over : goal.ghost-over
ghost-over g a = untold_share
