use Rattle.std.proofs.Common.{◌∷◌, [], ◌++◌, ap, sym, ◌∙◌, arith}
use Rattle.std.proofs.lemmas.List.{map_push}
use Rattle.segment_core.proofs.Written.{take_more}
use Rattle.flush_core.proofs.fold.pieces_to.Goals as goal

pub loop-k-preserved : goal.loop-k-preserved
loop-k-preserved g c =
    let i = c.loop-k.invariant in
    let count = i.count in
    let room = i.room in
    let len = c.push_reserved.ensures.len in
    let capacity = c.push_reserved.ensures.capacity in
    let rows = c.args.live.now.blocks in
    record {
      count = omega arith;
      room = omega arith;
      pushed = rw c.push_reserved.ensures.items (
          map_push (λ piece. piece.now) c.loop-k.row.items c.block.result
          ∙ ap (λ row. row ++ c.block.result.now ∷ []) i.pushed
          ∙ sym (take_more rows c.loop-k.k c.block.result.now c.block.ensures));
    }
