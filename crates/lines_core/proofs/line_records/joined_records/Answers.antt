use Rattle.std.proofs.Common.{◌++◌, take, sym, ap, ◌∙◌, arith}
use Rattle.std.proofs.lemmas.List.{take_all}
use Rattle.segment_core.specs.Written.{joined}
use Rattle.lines_core.proofs.Blocks.{joined_push, take_one_more}
use Rattle.lines_core.proofs.line_records.joined_records.Goals as goal

pub loop-k-preserved : goal.loop-k-preserved
loop-k-preserved g c =
    c.in_ok-extend_from_slice.ensures.items ∙ ap (λ rs. rs ++ c.growth.result.now) c.loop-k.invariant
    ∙ sym (ap joined (take_one_more c.args.growths.now.0 c.loop-k.k c.growth.result.now c.growth.ensures) ∙ joined_push (take c.loop-k.k c.args.growths.now.0) c.growth.result.now)

pub returns : goal.returns
returns g c = c.loop-k.invariant ∙ ap joined (take_all c.loop-k.k c.args.growths.now.0 (omega (arith, c.loop-k-test.false, c.count-k-end.ensures)))
