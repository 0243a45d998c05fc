use Rattle.phase_core.specs.Host.{truth_over}
use Rattle.phase_core.proofs.host.disk_over.Given as goal

abbrev pub ghost-over : goal.ghost-over
ghost-over g a = truth_over g.held
