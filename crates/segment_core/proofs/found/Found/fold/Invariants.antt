use Rattle.std.proofs.Common.{◌≡◌, ◌≤◌, ◌-◌, drop}
use Rattle.segment_core.specs.Found.{IsSame}
use Rattle.segment_core.proofs.found.Found.fold.Given as goal

abbrev pub invariant-loop-self : goal.invariant-loop-self
invariant-loop-self g l = record {
  from : l.fn.self.folded ≤ l.self.folded;
  to : l.self.folded ≤ l.count;
  live : l.self.live.items ≡ drop (l.self.folded - l.fn.self.folded) l.fn.self.live.items;
  same : IsSame l.fn.self l.self;
}

abbrev pub decreases-loop-self : goal.decreases-loop-self
decreases-loop-self g l = l.count - l.self.folded
