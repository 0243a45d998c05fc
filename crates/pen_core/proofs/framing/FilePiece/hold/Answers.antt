use Rattle.disk_core.specs.State.{now, IsImage}
use Rattle.disk_core.proofs.JoinedMoments.{LeavesOnly-start}
use Rattle.pen_core.proofs.framing.FilePiece.hold.Goals as goal

pub returns-then-at-n-clause-images : goal.returns-then-at-n-clause-images
returns-then-at-n-clause-images g c = λ model. LeavesOnly-start (g.D.Disk.states c.args.disk.now) (IsImage (now (g.D.Disk.states c.args.disk.now))) (λ image left. left)
