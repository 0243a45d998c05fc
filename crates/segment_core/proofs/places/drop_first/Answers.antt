use Rattle.std.proofs.Common.{drop, ap, ◌∙◌, arith}
use Rattle.std.proofs.lemmas.List.{drop-drop}
use Rattle.segment_core.proofs.places.drop_first.Goals as goal

pub loop-gone-preserved : goal.loop-gone-preserved
loop-gone-preserved c =
    let so_far = c.loop-gone.invariant in
    let below = c.loop-gone-test.true in
    record {
      upto = omega arith;
      left = c.pop_front.ensures.rest ∙ ap (drop 1) so_far.left ∙ drop-drop 1 c.loop-gone.gone c.args.changes.now.items;
    }

pub returns : goal.returns
returns c =
    let so_far = c.loop-gone.invariant in
    so_far.left ∙ ap (λ n. drop n c.args.changes.now.items) (omega (arith, so_far.upto, c.loop-gone-test.false))
