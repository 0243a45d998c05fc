use Rattle.segment_core.proofs.Tallied.{disordered_by_runs, finds_runs, finds_range, finds_unfolded, finds_fold_count, finds_too_long}
use Rattle.std.proofs.Common.{arith}
use Rattle.segment_core.proofs.tally.Tally.check.Goals as goal

pub returns-then-is_too_long : goal.returns-then-is_too_long
returns-then-is_too_long c = grind (arith, finds_too_long)

pub returns-then-is_miscounted : goal.returns-then-is_miscounted
returns-then-is_miscounted c = grind (arith, finds_fold_count)

pub returns-then-is_unfolded : goal.returns-then-is_unfolded
returns-then-is_unfolded c = grind (arith, finds_unfolded)

pub returns-then-is_outside : goal.returns-then-is_outside
returns-then-is_outside c = grind (arith, finds_range)

pub returns-then-not-runs_ascend : goal.returns-then-not-runs_ascend
returns-then-not-runs_ascend c = grind (arith, disordered_by_runs, finds_runs)
