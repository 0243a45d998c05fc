use Rattle.std.proofs.Common.{ℕ, List, [], ◌∷◌, ◌++◌, ap, ◌∙◌}
use Rattle.segment_core.specs.declared.format.Format.TheVariants.{One}
use Rattle.segment_core.specs.Frame.{frame_text}
use Rattle.segment_core.specs.Written.{group_frame}
use Rattle.cvec_c.proofs.Append.{length-bytes_of_one}
use Rattle.cvec_c.proofs.appending.frame_of.Goals as goal

pub returns-clause-text : goal.returns-clause-text
returns-clause-text g c = λ format. c.in_ok-push.ensures.items
    ∙ ap (λ (bs : List ℕ). bs ++ 0 ∷ [])
    (c.in-Ok.ensures.text format ∙ ap (λ (bs : List ℕ). bs ++ frame_text format (group_frame g.R.Record.form (c.args.records.now ∷ []))) c.new-bytes.ensures.items)

pub returns-clause-len : goal.returns-clause-len
returns-clause-len g c =
    let laws = g.met.R.Record g.world.𝓛 g.world.𝓜 g.world.𝓡 ((λ s x. x), (λ x. x), (λ x. x), λ x. x) in
    length-bytes_of_one One g.R.Record.form c.args.records.now c.push.new.self.items laws.width_of_bytes (returns-clause-text g c One)
