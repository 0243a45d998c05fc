use Rattle.disk_core.proofs.shared_file.SharedFile.over.Given as goal

abbrev pub ghost-any : goal.ghost-any
ghost-any g a = g.truth
