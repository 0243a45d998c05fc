use Rattle.std.proofs.Common.{◌≡◌, [], length, map, None}
use Rattle.text_core.proofs.LineGroups.{HasGroups}
use Rattle.lines_core.specs.GrowthLines.{lone_group}
use Rattle.lines_core.proofs.growth_lines.read_lines.Given as goal

abbrev pub invariant-loop-rest : goal.invariant-loop-rest
invariant-loop-rest g l = HasGroups g.R.TextRecord.spelling l.input (map lone_group l.growths.0) l.rest × (l.growths.1 ≡ []) × (l.lines ≡ length l.growths.0) × (l.shown ≡ None)

abbrev pub decreases-loop-rest : goal.decreases-loop-rest
decreases-loop-rest g l = length l.rest
