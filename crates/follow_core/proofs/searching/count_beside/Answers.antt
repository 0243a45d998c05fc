use Rattle.std.proofs.Common.{ap, ◌∙◌}
use Rattle.std.specs.List.{count_by}
use Rattle.text_core.specs.Answers.{number_line}
use Rattle.follow_core.specs.Answers.{IsCountLine}
use Rattle.text_core.proofs.Wanted.{equals_alone}
use Rattle.follow_core.proofs.Whole.{told_records}
use Rattle.follow_core.proofs.searching.count_beside.Goals as goal

pub returns-clause-read : goal.returns-clause-read
returns-clause-read g c =
    let laws = g.met.R.Record g.world.𝓛 g.world.𝓜 g.world.𝓡 ((λ s x. x), (λ x. x), (λ x. x), λ x. x) in
    let same = g.met.R.Eq g.world.𝓛 g.world.𝓜 g.world.𝓡 ((λ s x. x), (λ x. x), (λ x. x), λ x. x) in
    let is = λ (r : g.row.R.Denot). g.R.PartialEq.eq r c.args.wanted in
    told_records g.R.Record.form (IsCountLine c.args.wanted) _ _ _ _ _ _ _ c.in-Ok.found.0.items c.in-Ok.found.1 (number_line c.count_equal.result) c.write_number_line.result c.told.result
    c.told.ensures c.write_number_line.ensures
    (is, equals_alone g.R.PartialEq.eq c.args.wanted same.laws laws.exact, ap number_line (c.count_equal.ensures ∙ ap (count_by is) c.deref.ensures.value)) c.in-Ok.ensures.read
