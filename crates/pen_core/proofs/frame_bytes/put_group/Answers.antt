use Rattle.std.proofs.Common.{◌++◌, ◌∷◌, [], ap, ◌∙◌}
use Rattle.segment_core.specs.Frame.{frame_text}
use Rattle.segment_core.specs.Written.{group_frame}
use Rattle.pen_core.proofs.frame_bytes.put_group.Goals as goal

pub returns-in-Ok-clause-text : goal.returns-in-Ok-clause-text
returns-in-Ok-clause-text g c = λ format.
    let frame = group_frame g.R.Record.form (g.G.GrowthList.growths c.args.growths.now) in
    let text = c.in_ok-append_group.ensures.text format ∙ ap (λ bs. bs ++ frame_text format frame) c.clear.ensures.items in
    c.in-Ok.ensures.items ∙ ap (λ bs. bs ++ 0 ∷ []) text
