use Rattle.std.proofs.Common.{◌≤◌, length, take, drop, Some, sym, ap, subst, arith}
use Rattle.std.specs.NonZero.{non_zero_u32_get}
use Rattle.std.proofs.lemmas.Grind.{common_steps}
use Rattle.std.proofs.lemmas.List.{length-take, take-append-drop}
use Rattle.lines_core.specs.InputBlocks.{AreFirstBlocks}
use Rattle.lines_core.proofs.Excerpts.{front_shown}
use Rattle.lines_core.proofs.FirstBlocks.{none_first}
use Rattle.lines_core.proofs.WholeBlocks.{of_shorter}
use Rattle.lines_core.proofs.line_blocks.read_before.Goals as goal

pub returns-in-Ok-clause-first : goal.returns-in-Ok-clause-first
returns-in-Ok-clause-first g c =
    of_shorter g.R.TextRecord.spelling (non_zero_u32_get c.args.block) c.args.input.now _ _ c.first_blocks-len.result c.loop.len c.in-Ok.blocks.growths.0 c.in-Ok.blocks.lines
    c.in-Ok.ensures.read c.first_blocks-len.ensures.whole (grind (arith, common_steps)) (grind (arith, common_steps)) c.first_blocks-len.ensures.within

pub returns-in-Ok-clause-shown : goal.returns-in-Ok-clause-shown
returns-in-Ok-clause-shown g c = c.loop.invariant.1

pub returns-clause-first : goal.returns-clause-first
returns-clause-first g c =
    let input = Some c.args.input.now in
    let block = non_zero_u32_get c.args.block in
    (input, subst (λ gs. AreFirstBlocks g.R.TextRecord.spelling block input input gs) (sym (ap (λ gs. gs.0) c.new.ensures)) (none_first g.R.TextRecord.spelling block input))

pub returns-clause-shown : goal.returns-clause-shown
returns-clause-shown g c = c.loop.invariant.1

pub loop-preserved : goal.loop-preserved
loop-preserved g c =
    let len = c.first_blocks-len.result in
    let input = c.args.input.now in
    let within : len ≤ length input = omega (arith, c.first_blocks-len.ensures.within, length-take c.loop.len input) in
    (within, front_shown _ g.R.TextRecord.spelling input (take len input) (drop len input) c.in-Err.earlier c.read_blocks.new.shown (sym (take-append-drop len input)) c.in-Err.ensures.shown)
