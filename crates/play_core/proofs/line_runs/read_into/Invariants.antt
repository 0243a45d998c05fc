use Rattle.std.proofs.Common.{length}
use Rattle.play_core.specs.LineWords.{words_left}
use Rattle.drive_core.specs.Given.{pieces_of}
use Rattle.play_core.proofs.LineRuns.{HasRuns}
use Rattle.play_core.proofs.line_runs.read_into.Given as goal

abbrev pub invariant-loop-word : goal.invariant-loop-word
invariant-loop-word g l = HasRuns g.R.TextRecord.spelling (words_left l.text) (pieces_of l.runs.items) (words_left l.rest)

abbrev pub decreases-loop-word : goal.decreases-loop-word
decreases-loop-word g l = length (words_left l.rest)
