use Rattle.std.proofs.Common.{◌≤◌, length, Some}
use Rattle.std.specs.Prelude.{IfSome}
use Rattle.lines_core.specs.Excerpts.{IsFrontShown}
use Rattle.lines_core.proofs.line_blocks.read_before.Given as goal

abbrev pub invariant-loop : goal.invariant-loop
invariant-loop g l = (l.len ≤ length l.input) × IfSome l.shown (IsFrontShown g.R.TextRecord.spelling (Some l.input) l.refusal)
