use Rattle.std.proofs.Common.{◌≤◌}
use Rattle.cvec.proofs.floats.append_list.Given as goal

abbrev pub invariant-loop-at : goal.invariant-loop-at
invariant-loop-at l = l.start ≤ l.at
