use Rattle.std.proofs.Common.{◌≡◌, ◌++◌, length, map}
use Rattle.std.specs.List.{AllByRecursion}
use Rattle.play_core.specs.LineWords.{words_left}
use Rattle.play_core.proofs.line_runs.read_records.Given as goal

abbrev pub invariant-loop-record : goal.invariant-loop-record
invariant-loop-record g l =
    AllByRecursion g.R.TextRecord.spelling.is_value l.records.items × (words_left l.text ≡ map g.R.TextRecord.spelling.text_of l.records.items ++ words_left l.rest)

abbrev pub decreases-loop-record : goal.decreases-loop-record
decreases-loop-record g l = length (words_left l.rest)
