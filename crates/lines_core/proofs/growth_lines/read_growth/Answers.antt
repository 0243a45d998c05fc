use Rattle.std.proofs.Common.{◌≡◌, [], ◌∷◌, ◌++◌, length, refl, sym, ap, ◌∙◌, arith, Err}
use Rattle.std.specs.Option.{option_copied}
use Rattle.text_core.proofs.Joins.{words_in, words_cut}
use Rattle.text_core.proofs.Small.{err_is, OnOk_from, OnOk_at, nil_from_test, some_from_test}
use Rattle.text_core.proofs.GroupLines.{Reads_start, read_whole}
use Rattle.lines_core.proofs.GrowthLines.{Reads_value, stray_is_bad, no_growth_is_bad}
use Rattle.lines_core.proofs.growth_lines.read_growth.Goals as goal

pub loop-rest-init : goal.loop-rest-init
loop-rest-init g c =
    let laws = g.met.R.TextRecord g.world.𝓛 g.world.𝓜 g.world.𝓡 ((λ s x. x), (λ x. x), (λ x. x), λ x. x) in
    (refl, rw c.requires (Reads_start g.R.TextRecord.spelling c.args.line.now laws.is_word))

pub returns-in_err-take_word-clause-bad : goal.returns-in_err-take_word-clause-bad
returns-in_err-take_word-clause-bad g c = λ bad so.
    let cutting : words_in (option_copied c.loop-rest.rest) ≡ c.cut.result.0.now ∷ words_in (option_copied c.cut.result.1) =
    ap (λ o. words_in (option_copied o)) c.in-Some.is ∙ words_cut c.in-Some.text.now c.cut.result.0.now c.cut.result.1 c.cut.ensures.whole
    c.cut.ensures.first in
    let reads = rw cutting at c.loop-rest.invariant.1 in
    let fault = err_is c.from_residual.result _ c.in_err-take_word.field-0.0 c.from_residual.ensures.1 bad in
    stray_is_bad g.R.TextRecord.spelling c.args.line.now _ c.cut.result.0.now _ (c.in_err-take_word.ensures.bad (ap Err fault)) reads so

pub loop-rest-smaller : goal.loop-rest-smaller
loop-rest-smaller g c =
    let cutting : words_in (option_copied c.loop-rest.rest) ≡ c.cut.result.0.now ∷ words_in (option_copied c.cut.result.1) =
    ap (λ o. words_in (option_copied o)) c.in-Some.is ∙ words_cut c.in-Some.text.now c.cut.result.0.now c.cut.result.1 c.cut.ensures.whole
    c.cut.ensures.first in
    let len = ap length cutting in omega (arith, len)

pub loop-rest-preserved : goal.loop-rest-preserved
loop-rest-preserved g c =
    let laws = g.met.R.TextRecord g.world.𝓛 g.world.𝓜 g.world.𝓡 ((λ s x. x), (λ x. x), (λ x. x), λ x. x) in
    let cutting : words_in (option_copied c.loop-rest.rest) ≡ c.cut.result.0.now ∷ words_in (option_copied c.cut.result.1) =
    ap (λ o. words_in (option_copied o)) c.in-Some.is ∙ words_cut c.in-Some.text.now c.cut.result.0.now c.cut.result.1 c.cut.ensures.whole
    c.cut.ensures.first in (
      c.in_ok-take_word.ensures.ok.same ∙ c.loop-rest.invariant.0,
      Reads_value g.R.TextRecord.spelling c.args.line.now _ _ c.cut.result.0.now _ _ _ laws.is_word laws.one_value c.in_ok-take_word.ensures.ok (rw cutting at c.loop-rest.invariant.1),
    )

pub returns-then-not-is_begun-clause-bad : goal.returns-then-not-is_begun-clause-bad
returns-then-not-is_begun-clause-bad g c = λ bad so.
    let ended : words_in (option_copied c.loop-rest.rest) ≡ [] = ap (λ o. words_in (option_copied o)) c.in_default.is in
    let none = ap length (nil_from_test c.loop-rest.growths.1 c.is_begun.result c.if-not-is_begun.true c.is_begun.ensures.1) in
    no_growth_is_bad g.R.TextRecord.spelling c.args.line.now _ none (rw ended at c.loop-rest.invariant.1) so

pub returns-clause-read : goal.returns-clause-read
returns-clause-read g c = OnOk_from c.map_err.result _ (λ ok.
    let ended : words_in (option_copied c.loop-rest.rest) ≡ [] = ap (λ o. words_in (option_copied o)) c.in_default.is in
    let some = some_from_test c.loop-rest.growths.1 c.is_begun.result c.if-not-is_begun.false c.is_begun.ensures.0 in
    let moved = OnOk_at c.end.result _ c.end.ensures.ok (sym c.map_err.ensures.variant ∙ ok) in (
      c.loop-rest.growths.1,
      read_whole g.R.TextRecord.spelling c.args.line.now [] _ some (rw ended at c.loop-rest.invariant.1),
      moved ∙ ap (λ gs. (gs ++ c.loop-rest.growths.1 ∷ [], [])) c.loop-rest.invariant.0,
    ))
