use Rattle.std.proofs.Common.{◌≡◌, ◌≤◌, ◌-◌, length}
use Rattle.disk_core.specs.State.{now, IsImage}
use Rattle.disk_core.specs.Calls.{bytes_of}
use Rattle.disk_core.specs.Moments.{LeavesOnly}
use Rattle.files_core.specs.Listing.{AreRecordsFrom}
use Rattle.files_core.proofs.window_records.read_parts.Given as goal

abbrev pub invariant-loop-done : goal.invariant-loop-done
invariant-loop-done g l =
    let old = g.D.Disk.states l.fn.disk in
    let new = g.D.Disk.states l.disk in
    let keeps = g.D.Disk.keeps l.disk in
    record {
      inside : l.done ≤ l.count;
      long : length l.records.items ≡ l.done;
      read : keeps → AreRecordsFrom g.R.Record.form (bytes_of old) l.from l.done l.records.items;
      model : keeps → g.D.Disk.keeps l.fn.disk;
      same : keeps → now new ≡ now old;
      images : keeps → LeavesOnly old new (IsImage (now old));
      faults : g.D.Disk.faults l.disk ≡ g.D.Disk.faults l.fn.disk;
    }

abbrev pub decreases-loop-done : goal.decreases-loop-done
decreases-loop-done g l = l.count - l.done
