use Rattle.std.proofs.Common.{◌≡◌, [], length}
use Rattle.std.specs.Option.{option_copied}
use Rattle.text_core.proofs.Joins.{words_in}
use Rattle.text_core.proofs.GroupLines.{Reads}
use Rattle.lines_core.proofs.growth_lines.read_growth.Given as goal

abbrev pub invariant-loop-rest : goal.invariant-loop-rest
invariant-loop-rest g l = (l.growths.0 ≡ l.fn.growths.0) × Reads g.R.TextRecord.spelling l.line [] l.growths.1 (words_in (option_copied l.rest))

abbrev pub decreases-loop-rest : goal.decreases-loop-rest
decreases-loop-rest g l = length (words_in (option_copied l.rest))
