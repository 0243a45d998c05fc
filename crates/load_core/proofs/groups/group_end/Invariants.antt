use Rattle.std.proofs.Common.{◌≡◌, ◌-◌, ◌≤◌, length}
use Rattle.segment_core.specs.Written.{joined, payload_len}
use Rattle.load_core.specs.Groups.{row_part}
use Rattle.load_core.proofs.groups.group_end.Given as goal

abbrev pub invariant-loop-k : goal.invariant-loop-k
invariant-loop-k g l = record {
  payload_is : l.payload ≡ payload_len g.R.Record.form.width (row_part l.row.0 l.from (l.k - l.from));
  records_are : l.records ≡ length (joined (row_part l.row.0 l.from (l.k - l.from)));
  bytes : l.payload ≤ l.limit;
  records : l.records ≤ l.room;
}
