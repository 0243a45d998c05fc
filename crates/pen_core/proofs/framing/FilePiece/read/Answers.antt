use Rattle.disk_core.specs.State.{now, IsImage}
use Rattle.disk_core.proofs.JoinedMoments.{LeavesOnly-start}
use Rattle.pen_core.proofs.Births.{stays_only}
use Rattle.pen_core.proofs.framing.FilePiece.read.Goals as goal

pub returns-in_default-clause-images : goal.returns-in_default-clause-images
returns-in_default-clause-images g c = λ model. LeavesOnly-start (g.D.Disk.states c.args.disk.now) (IsImage (now (g.D.Disk.states c.args.disk.now))) (λ image left. left)

pub returns-in-Ok-read_at-clause-images : goal.returns-in-Ok-read_at-clause-images
returns-in-Ok-read_at-clause-images g c = λ model.
    stays_only (g.D.Disk.states c.args.disk.now) (g.D.Disk.states c.read_at.new.self) (c.read_at.ensures.same (c.read_at.ensures.model model))

pub returns-in-Err-clause-images : goal.returns-in-Err-clause-images
returns-in-Err-clause-images g c = λ model.
    stays_only (g.D.Disk.states c.args.disk.now) (g.D.Disk.states c.read_at.new.self) (c.read_at.ensures.same (c.read_at.ensures.model model))
