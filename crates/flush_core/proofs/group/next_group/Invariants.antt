use Rattle.std.proofs.Common.{◌≡◌, ◌+◌, ◌≤◌, take, drop, map}
use Rattle.segment_core.specs.Written.{payload_len}
use Rattle.flush_core.proofs.group.next_group.Given as goal

abbrev pub invariant-loop-number : goal.invariant-loop-number
invariant-loop-number g l = record {
  same : l.pass ≡ l.fn.pass;
  at : l.number ≡ l.from + l.group.count;
  payload : l.group.payload ≡ payload_len g.R.Record.form.width (take l.group.count (map (λ e. e.records) (drop l.from l.fn.pass.entries)));
  fits : l.group.payload ≤ l.limit;
}
