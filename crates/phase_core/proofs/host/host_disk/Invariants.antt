use Rattle.phase_core.proofs.host.host_disk.Given as goal

abbrev pub ghost-disk_over : goal.ghost-disk_over
ghost-disk_over g a = a.bytes.items
