use Rattle.disk_core.specs.Moments.{clock}
use Rattle.drive_core.proofs.driving.drive.Given as goal

abbrev pub ghosts-drive_counted : goal.ghosts-drive_counted
ghosts-drive_counted g a = record { moment = clock (g.D.Disk.states a.disk) }
