use Rattle.std.proofs.Common.{refl, subst}
use Rattle.text_core.specs.Answers.{found_line}
use Rattle.search_core.specs.Search.{IsFirst}
use Rattle.follow_core.specs.Answers.{IsFoundLine}
use Rattle.text_core.proofs.Wanted.{equals_alone}
use Rattle.follow_core.proofs.Whole.{told_records}
use Rattle.follow_core.proofs.searching.find_beside.Goals as goal

pub returns-clause-read : goal.returns-clause-read
returns-clause-read g c =
    let laws = g.met.R.Record g.world.𝓛 g.world.𝓜 g.world.𝓡 ((λ s x. x), (λ x. x), (λ x. x), λ x. x) in
    let same = g.met.R.Eq g.world.𝓛 g.world.𝓜 g.world.𝓡 ((λ s x. x), (λ x. x), (λ x. x), λ x. x) in
    let is = λ (r : g.row.R.Denot). g.R.PartialEq.eq r c.args.wanted in
    told_records g.R.Record.form (IsFoundLine c.args.wanted) _ _ _ _ _ _ _ c.in-Ok.found.0.items c.in-Ok.found.1 (found_line c.first_equal.result) c.write_found.result c.told.result
    c.told.ensures c.write_found.ensures (
      is,
      equals_alone g.R.PartialEq.eq c.args.wanted same.laws laws.exact,
      c.first_equal.result,
      subst (λ rs. IsFirst is rs c.first_equal.result) c.deref.ensures.value c.first_equal.ensures,
      refl,
    ) c.in-Ok.ensures.read
