use Rattle.std.proofs.Common.{◌++◌, ◌∷◌, [], ap, ◌∙◌}
use Rattle.segment_core.specs.Frame.{Shrink, frame_text}
use Rattle.pen_core.proofs.frame_bytes.put_shrink.Goals as goal

pub returns : goal.returns
returns c = record {
  text =
      λ format. c.in_ok-push.ensures.items
      ∙ ap (λ bs. bs ++ 0 ∷ [])
      (c.in_ok-append_shrink.ensures.text format
      ∙ ap (λ bs. bs ++ frame_text format (Shrink c.args.n)) c.in_ok-take_room.ensures.items);
}
