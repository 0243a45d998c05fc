use Rattle.disk_core.proofs.FileLemmas.{five_bytes}
use Rattle.call_tests.proofs.tests.files.halting.with_five_bytes.Given as goal

abbrev pub ghost-over : goal.ghost-over
ghost-over g a = five_bytes
