use Rattle.std.proofs.Common.{◌++◌, ◌∷◌, [], ap, ◌∙◌}
use Rattle.segment_core.specs.Frame.{Fold, frame_text}
use Rattle.pen_core.proofs.frame_bytes.put_fold.Goals as goal

pub returns : goal.returns
returns c = record {
  text = λ format.
      c.in_ok-push.ensures.items
      ∙ ap (λ bs. bs ++ 0 ∷ [])
      (c.in_ok-append_fold.ensures.text format ∙ ap (λ bs. bs ++ frame_text format (Fold c.args.count)) c.clear.ensures.items);
}
