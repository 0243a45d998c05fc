use Rattle.std.proofs.Common.{◌≡◌, ℕ, ◌≤◌, ◌<◌, ◌+◌, ◌-◌, ◌*◌, length}
use Rattle.disk_core.specs.State.{now, IsImage}
use Rattle.disk_core.specs.Calls.{bytes_of}
use Rattle.disk_core.specs.Moments.{LeavesOnly, clock}
use Rattle.segment_core.specs.Scanner.{IsCutShort}
use Rattle.pen_core.specs.Opening.{HasTaken, reads_of, pieces_front}
use Rattle.pen_core.proofs.scanning.feed_all.Given as goal

abbrev pub invariant-loop-at : goal.invariant-loop-at
invariant-loop-at g l =
    let old = g.D.Disk.states l.fn.disk in
    let new = g.D.Disk.states l.disk in
    let keeps = g.D.Disk.keeps l.disk in
    let piece = length l.fn.piece in
    record {
      inside : l.at ≤ l.len;
      whole : l.at < l.len → l.at ≡ piece * reads_of piece l.at;
      model : keeps → g.D.Disk.keeps l.fn.disk;
      taken : HasTaken g.R.Record.form keeps (bytes_of old) l.at l.scanner;
      same : keeps → now new ≡ now old;
      images : keeps → LeavesOnly old new (IsImage (now old));
      time : clock new ≡ clock old + reads_of piece l.at;
      needed : keeps → (k : ℕ) → k < reads_of piece l.at → IsCutShort g.R.Record.form (pieces_front piece k (bytes_of old));
      faults : g.D.Disk.faults l.disk ≡ g.D.Disk.faults l.fn.disk;
    }

abbrev pub decreases-loop-at : goal.decreases-loop-at
decreases-loop-at g l = l.len - l.at
