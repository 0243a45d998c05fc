use Rattle.disk_core.specs.Moments.{clock}
use Rattle.flush_core.proofs.flusher.Flusher.raise.Given as goal

abbrev pub ghosts-raise_at : goal.ghosts-raise_at
ghosts-raise_at g a = record { at = clock (g.D.Disk.states a.disk.now) }
