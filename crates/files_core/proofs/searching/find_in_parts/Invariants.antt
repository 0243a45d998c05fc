use Rattle.std.proofs.Common.{◌≡◌, ◌≤◌, ◌-◌, List}
use Rattle.std.specs.List.{count_by}
use Rattle.files_core.proofs.PartsRead.{HasReadFirst}
use Rattle.files_core.proofs.searching.find_in_parts.Given as goal

abbrev pub invariant-loop-done : goal.invariant-loop-done
invariant-loop-done g l = record {
  inside : l.done ≤ l.framed.tally.size;
  read : List g.row.R.Denot;
  so_far : HasReadFirst g.R.Record.form (g.D.Disk.keeps l.fn.disk) (g.D.Disk.keeps l.disk) (g.D.Disk.states l.fn.disk) (g.D.Disk.states l.disk) (g.D.Disk.faults l.fn.disk)
      (g.D.Disk.faults l.disk) l.done read;
  none : count_by (λ r. g.R.PartialEq.eq r l.wanted) read ≡ 0;
}

abbrev pub decreases-loop-done : goal.decreases-loop-done
decreases-loop-done g l = l.framed.tally.size - l.done
