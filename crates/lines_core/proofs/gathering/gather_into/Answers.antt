use Rattle.std.proofs.Common.{[], ◌∷◌, ◌++◌, ap, ◌∙◌, arith}
use Rattle.lines_core.proofs.Blocks.{gathered_line, gathered_block, gathered_as}
use Rattle.lines_core.proofs.gathering.gather_into.Goals.{then-held-block+in_ok-end, else-held-block}
use Rattle.lines_core.proofs.gathering.gather_into.Goals as goal

pub loop-k-preserved : goal.loop-k-preserved
loop-k-preserved g c =
    let done = c.loop-k.growths.0 in
    let part = c.loop-k.growths.1 in
    let lines = c.args.lines.now.0 in
    elim c.if-held-block.branch [
      | then-held-block+in_ok-end w ↦ gathered_as c.args.block lines _ _ _ _ c.if-held-block.growths c.if-held-block.held
          (w.growths-is ∙ w.in_ok-end.ensures.ok ∙ ap (λ gs. (gs.0 ++ gs.1 ∷ [], [])) c.in_ok-extend.ensures) w.held-is
          (gathered_block c.args.block lines c.loop-k.k done part c.loop-k.held c.loop-k.invariant c.growth.result.now c.growth.ensures (omega (arith, w.if-held-block.true)))
      | else-held-block w ↦ gathered_as c.args.block lines _ _ _ _ c.if-held-block.growths c.if-held-block.held (w.growths-is ∙ c.in_ok-extend.ensures) w.held-is
          (gathered_line c.args.block lines c.loop-k.k done part c.loop-k.held c.loop-k.invariant c.growth.result.now c.growth.ensures (omega (arith, w.if-held-block.false, c.loop-k.invariant.fewer)))
    ]
