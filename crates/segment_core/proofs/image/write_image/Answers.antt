use Rattle.std.proofs.Common.{List, ℕ, ◌++◌, ap, ◌∙◌}
use Rattle.segment_core.specs.Written.{groups_of, file_of}
use Rattle.segment_core.proofs.ReadAgain.{has_vector}
use Rattle.segment_core.proofs.image.write_image.Goals as goal

pub returns-in-Ok-append_image-clause-read_again : goal.returns-in-Ok-append_image-clause-read_again
returns-in-Ok-append_image-clause-read_again g c = λ small. (
    let laws = g.met.R.Record g.world.𝓛 g.world.𝓜 g.world.𝓡 ((λ s x. x), (λ x. x), (λ x. x), λ x. x) in
    let text = c.in-Ok-append_image.ensures.text ∙ ap (λ (bs : List ℕ). bs ++ file_of g.R.Record.form (groups_of c.args.groups.now)) c.in-Ok.ensures.items in
    has_vector g.R.Record.form c.append_image.new.file.items (groups_of c.args.groups.now) laws.width_in_range.0
    laws.width_of_bytes c.requires c.in_ok-size.ensures text c.in-Ok-append_image.ensures.read_again small)
