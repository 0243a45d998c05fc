use Rattle.std.proofs.Common.{◌≡◌, ◌-◌}
use Rattle.disk_core.specs.State.{now, IsImage}
use Rattle.disk_core.specs.Calls.{bytes_of}
use Rattle.disk_core.specs.Moments.{LeavesOnly}
use Rattle.pen_core.specs.Framing.{HoldsPiece, IsOnWay}
use Rattle.pen_core.proofs.framing.walk_frames.Given as goal

abbrev pub invariant-loop-walk : goal.invariant-loop-walk
invariant-loop-walk g l =
    let old = g.D.Disk.states l.fn.disk in
    let new = g.D.Disk.states l.disk in
    let keeps = g.D.Disk.keeps l.disk in
    record {
      shape_is : l.walk.shape ≡ l.fn.walk.shape;
      on_way : IsOnWay keeps (bytes_of old) l.size l.walk;
      holds : HoldsPiece keeps (bytes_of old) l.size l.piece;
      model : keeps → g.D.Disk.keeps l.fn.disk;
      same : keeps → now new ≡ now old;
      images : keeps → LeavesOnly old new (IsImage (now old));
      faults : g.D.Disk.faults l.disk ≡ g.D.Disk.faults l.fn.disk;
    }

abbrev pub decreases-loop-walk : goal.decreases-loop-walk
decreases-loop-walk g l = l.size - l.walk.at
