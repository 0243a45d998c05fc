use Rattle.std.proofs.Common.{sym, ◌∙◌}
use Rattle.lines_core.proofs.Blocks.{blocks_of_one}
use Rattle.lines_core.proofs.gathering.gather.Goals as goal

pub returns-then-get-eq1 : goal.returns-then-get-eq1
returns-then-get-eq1 g c = blocks_of_one _ c.args.lines.0 (sym c.get.ensures.value ∙ c.if-get-eq1.true)
