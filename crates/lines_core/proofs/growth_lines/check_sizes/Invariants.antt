use Rattle.std.proofs.Common.{◌≡◌, ℕ, ◌<◌, ◌≤◌, List, length, Some, slice_get}
use Rattle.record_core.specs.Limits.{payload_limit}
use Rattle.block_core.specs.Length.{payload_len}
use Rattle.lines_core.proofs.growth_lines.check_sizes.Given as goal

abbrev pub invariant-loop-k : goal.invariant-loop-k
invariant-loop-k g l = (j : ℕ) (other : List g.row.R.Denot) → j < l.k → slice_get l.growths.0 j ≡ Some other → payload_len g.R.Record.form.width (length other) ≤ payload_limit
