use Rattle.std.proofs.Common.{◌≡◌, ◌≤◌, ◌-◌}
use Rattle.disk_core.specs.State.{now, IsImage}
use Rattle.disk_core.specs.Calls.{bytes_of}
use Rattle.disk_core.specs.Moments.{LeavesOnly}
use Rattle.pen_core.specs.Framing.{HoldsPiece}
use Rattle.pen_core.proofs.framing.take_next.Given as goal

abbrev pub invariant-loop-piece : goal.invariant-loop-piece
invariant-loop-piece g l =
    let old = g.D.Disk.states l.fn.disk in
    let new = g.D.Disk.states l.disk in
    let keeps = g.D.Disk.keeps l.disk in
    record {
      enough : 14 ≤ l.need;
      walk_is : l.walk ≡ l.fn.walk;
      holds : HoldsPiece keeps (bytes_of old) l.size l.piece;
      model : keeps → g.D.Disk.keeps l.fn.disk;
      same : keeps → now new ≡ now old;
      images : keeps → LeavesOnly old new (IsImage (now old));
      faults : g.D.Disk.faults l.disk ≡ g.D.Disk.faults l.fn.disk;
    }

abbrev pub decreases-loop-piece : goal.decreases-loop-piece
decreases-loop-piece g l = l.left - l.need
