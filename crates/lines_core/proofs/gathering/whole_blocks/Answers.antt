use Rattle.std.proofs.Common.{take, sym, ◌∙◌}
use Rattle.std.specs.NonZero.{non_zero_u32_get}
use Rattle.lines_core.proofs.WholeBlocks.{lone_lines}
use Rattle.lines_core.proofs.gathering.whole_blocks.Goals as goal

pub returns-then-get-eq1-clause-whole : goal.returns-then-get-eq1-clause-whole
returns-then-get-eq1-clause-whole c =
    lone_lines (non_zero_u32_get c.args.block) (take c.whole_lines.result c.args.buffer.now) (sym c.get.ensures.value ∙ c.if-get-eq1.true) c.whole_lines.ensures.ends
