use Rattle.std.proofs.Common.{◌≡◌, ◌≤◌, ◌-◌, drop}
use Rattle.segment_core.proofs.places.drop_first.Given as goal

abbrev pub invariant-loop-gone : goal.invariant-loop-gone
invariant-loop-gone l = record {
  upto : l.gone ≤ l.n;
  left : l.changes.items ≡ drop l.gone l.fn.changes.items;
}

abbrev pub decreases-loop-gone : goal.decreases-loop-gone
decreases-loop-gone l = l.n - l.gone
