use Rattle.std.proofs.Common.{◌≡◌, [], length, ap, arith, Err}
use Rattle.std.specs.Option.{option_copied}
use Rattle.text_core.proofs.Joins.{words_in, words_next}
use Rattle.text_core.proofs.Small.{err_is, nil_from_test, some_from_test}
use Rattle.text_core.proofs.GroupLines.{Reads_start, Reads_word, stray_is_bad, unfinished_is_bad, read_whole}
use Rattle.image_core.proofs.group_line.read_group.Goals as goal

pub loop-rest-init : goal.loop-rest-init
loop-rest-init g c =
    let laws = g.met.R.TextRecord g.world.𝓛 g.world.𝓜 g.world.𝓡 ((λ s x. x), (λ x. x), (λ x. x), λ x. x) in
    rw c.clear.ensures (Reads_start g.R.TextRecord.spelling c.args.line.now laws.is_word)

pub returns-in_err-take_word-clause-bad : goal.returns-in_err-take_word-clause-bad
returns-in_err-take_word-clause-bad g c = λ bad so.
    let laws = g.met.R.TextRecord g.world.𝓛 g.world.𝓜 g.world.𝓡 ((λ s x. x), (λ x. x), (λ x. x), λ x. x) in
    let cutting = words_next _ _ _ _ c.in-Some.is c.cut.ensures.whole c.cut.ensures.first in
    let reads = rw cutting at c.loop-rest.invariant in
    let fault = err_is c.from_residual.result _ c.in_err-take_word.field-0.0 c.from_residual.ensures.1 bad in
    stray_is_bad g.R.TextRecord.spelling c.args.line.now _ _ c.cut.result.0.now _ laws.is_word (c.in_err-take_word.ensures.bad (ap Err fault)) reads so

pub loop-rest-smaller : goal.loop-rest-smaller
loop-rest-smaller g c =
    let cutting = words_next _ _ _ _ c.in-Some.is c.cut.ensures.whole c.cut.ensures.first in
    let len = ap length cutting in omega (arith, len)

pub loop-rest-preserved : goal.loop-rest-preserved
loop-rest-preserved g c =
    let laws = g.met.R.TextRecord g.world.𝓛 g.world.𝓜 g.world.𝓡 ((λ s x. x), (λ x. x), (λ x. x), λ x. x) in
    let cutting = words_next _ _ _ _ c.in-Some.is c.cut.ensures.whole c.cut.ensures.first in
    Reads_word g.R.TextRecord.spelling c.args.line.now _ _ c.cut.result.0.now _ _ _ laws.is_word laws.one_value c.in_ok-take_word.ensures.ok (rw cutting at c.loop-rest.invariant)

pub returns-then-not-is_begun-clause-bad : goal.returns-then-not-is_begun-clause-bad
returns-then-not-is_begun-clause-bad g c = λ bad so.
    let ended : words_in (option_copied c.loop-rest.rest) ≡ [] = ap (λ o. words_in (option_copied o)) c.in_default.is in
    let none = ap length (nil_from_test c.loop-rest.group.1 c.is_begun.result c.if-not-is_begun.true c.is_begun.ensures.1) in
    unfinished_is_bad g.R.TextRecord.spelling c.args.line.now _ _ none (rw ended at c.loop-rest.invariant) so

pub returns-clause-read : goal.returns-clause-read
returns-clause-read g c =
    let ended : words_in (option_copied c.loop-rest.rest) ≡ [] = ap (λ o. words_in (option_copied o)) c.in_default.is in
    let some = some_from_test c.loop-rest.group.1 c.is_begun.result c.if-not-is_begun.false c.is_begun.ensures.0 in
    let whole = read_whole g.R.TextRecord.spelling c.args.line.now _ _ some (rw ended at c.loop-rest.invariant) in
    rw (ap (λ v. v.0) c.in_ok-end.ensures.ok) whole
