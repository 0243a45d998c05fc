use Rattle.std.proofs.Common.{◌≡◌, ◌+◌, ◌-◌, ◌≤◌, length}
use Rattle.record_core.specs.Limits.{record_limit}
use Rattle.beside_core.specs.Tail.{FillsTail}
use Rattle.beside_core.proofs.Taking.{HasTaken}
use Rattle.beside_core.proofs.replay.replay.Given as goal

abbrev pub invariant-loop-frame : goal.invariant-loop-frame
invariant-loop-frame g l = record {
  inside : l.used ≤ length l.text;
  at : l.gate ≡ l.fn.mark.gate + l.used;
  small : l.tally.size ≤ record_limit;
  few : l.tally.changes ≤ l.gate;
  lower : l.laid.base ≤ l.fn.mark.tally.size;
  tail : FillsTail g.R.Record.form.width l.laid.base l.tally.size l.laid.tail.items;
  many : l.frames ≤ l.used;
  taken : HasTaken g.R.Record.form l.fn.mark l.text l.used l.tally l.laid l.frames;
}

abbrev pub decreases-loop-frame : goal.decreases-loop-frame
decreases-loop-frame g l = length l.text - l.used
