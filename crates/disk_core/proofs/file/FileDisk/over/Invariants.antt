use Rattle.disk_core.proofs.file.FileDisk.over.Given as goal

abbrev pub ghost-any : goal.ghost-any
ghost-any g a = g.truth
