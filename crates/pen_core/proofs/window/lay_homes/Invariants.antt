use Rattle.std.proofs.Common.{◌≡◌, take}
use Rattle.disk_core.specs.State.{now, IsImage}
use Rattle.disk_core.specs.Calls.{bytes_of}
use Rattle.disk_core.specs.Moments.{LeavesOnly}
use Rattle.segment_core.specs.Found.{home_among}
use Rattle.pen_core.specs.Window.{AreLaidOver}
use Rattle.pen_core.proofs.window.lay_homes.Given as goal

abbrev pub invariant-loop-k : goal.invariant-loop-k
invariant-loop-k g l =
    let old = g.D.Disk.states l.fn.disk in
    let new = g.D.Disk.states l.disk in
    let keeps = g.D.Disk.keeps l.disk in
    record {
      laid : keeps → AreLaidOver l.width l.window.from l.window.count (bytes_of old) (home_among l.width (take l.k l.homes)) l.fn.out l.out;
      model : keeps → g.D.Disk.keeps l.fn.disk;
      same : keeps → now new ≡ now old;
      images : keeps → LeavesOnly old new (IsImage (now old));
      faults : g.D.Disk.faults l.disk ≡ g.D.Disk.faults l.fn.disk;
    }
