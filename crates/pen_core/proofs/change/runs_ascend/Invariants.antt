use Rattle.std.proofs.Common.{◌≡◌, drop}
use Rattle.pen_core.proofs.RunsGiven.{well_formed}
use Rattle.pen_core.proofs.change.runs_ascend.Given as goal

abbrev pub invariant-loop-k : goal.invariant-loop-k
invariant-loop-k l = record { left : well_formed l.end (drop l.k l.runs) ≡ well_formed 0 l.runs }
