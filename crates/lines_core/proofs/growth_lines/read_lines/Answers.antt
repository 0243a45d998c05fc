use Rattle.std.proofs.Common.{◌<◌, ◌+◌, [], ◌∷◌, length, refl, sym, ap, ◌∙◌, arith, Err}
use Rattle.std.specs.Option.{option_copied}
use Rattle.std.proofs.lemmas.Bool.{eqb-true, eqb-false}
use Rattle.std.proofs.lemmas.List.{length-append}
use Rattle.text_core.proofs.Small.{nil_from_length}
use Rattle.text_core.proofs.LineLemmas.{lent_whole, lent_rest, shorter_rest}
use Rattle.text_core.proofs.LineGroups.{HasGroups_start, HasGroups_all}
use Rattle.lines_core.proofs.Excerpts.{bad_line_shown}
use Rattle.lines_core.proofs.GrowthLines.{HasGrowths_more, first_bad_growth}
use Rattle.lines_core.proofs.growth_lines.read_lines.Goals as goal

pub loop-rest-init : goal.loop-rest-init
loop-rest-init g c = rw c.new-growths.ensures (HasGroups_start g.R.TextRecord.spelling c.args.input.now, refl, refl, refl)

pub returns-in-Err-Bad-clause-refused : goal.returns-in-Err-Bad-clause-refused
returns-in-Err-Bad-clause-refused g c =
    let some : 0 < length c.loop-rest.rest.now = let no = eqb-false _ 0 (sym c.loop-rest-test.ensures) in omega (arith, no) in
    let whole = lent_whole c.cut_far.result.1 c.loop-rest.rest.now c.cut_far.result.0.now c.cut_far.ensures.whole in
    let so_far = c.loop-rest.invariant in
    first_bad_growth g.R.TextRecord.spelling c.args.input.now c.loop-rest.growths.0 c.loop-rest.rest.now c.cut_far.result.0.now
    (option_copied c.cut_far.result.1) _ some whole c.cut_far.ensures.first (c.in-Err-Bad.ensures.bad (ap Err c.in-Err-Bad.field-0-is))
    (ap (λ n. n + 1) so_far.2) so_far.0

pub returns-in-Err-Bad-clause-shown : goal.returns-in-Err-Bad-clause-shown
returns-in-Err-Bad-clause-shown g c =
    let some : 0 < length c.loop-rest.rest.now = let no = eqb-false _ 0 (sym c.loop-rest-test.ensures) in omega (arith, no) in
    let whole = lent_whole c.cut_far.result.1 c.loop-rest.rest.now c.cut_far.result.0.now c.cut_far.ensures.whole in
    let so_far = c.loop-rest.invariant in (
      c.loop-rest.lines + 1,
      refl,
      bad_line_shown g.R.TextRecord.spelling c.args.input.now c.loop-rest.growths.0 c.loop-rest.rest.now c.cut_far.result.0.now
          (option_copied c.cut_far.result.1) _ c.of_bad_word.result some whole c.cut_far.ensures.first (c.in-Err-Bad.ensures.bad (ap Err c.in-Err-Bad.field-0-is))
          (ap (λ n. n + 1) so_far.2) so_far.0 c.of_bad_word.ensures,
    )

pub returns-in-Err-Memory-clause-shown : goal.returns-in-Err-Memory-clause-shown
returns-in-Err-Memory-clause-shown g c = rw c.loop-rest.invariant.3 tt

pub loop-rest-smaller : goal.loop-rest-smaller
loop-rest-smaller g c =
    let some : 0 < length c.loop-rest.rest.now = let no = eqb-false _ 0 (sym c.loop-rest-test.ensures) in omega (arith, no) in
    let whole = lent_whole c.cut_far.result.1 c.loop-rest.rest.now c.cut_far.result.0.now c.cut_far.ensures.whole in
    let rest = ap (λ s. s.now) c.unwrap_or-rest.ensures ∙ lent_rest c.cut_far.result.1 _ refl in
    rw rest (shorter_rest _ _ _ some whole)

pub loop-rest-preserved : goal.loop-rest-preserved
loop-rest-preserved g c =
    let some : 0 < length c.loop-rest.rest.now = let no = eqb-false _ 0 (sym c.loop-rest-test.ensures) in omega (arith, no) in
    let whole = lent_whole c.cut_far.result.1 c.loop-rest.rest.now c.cut_far.result.0.now c.cut_far.ensures.whole in
    let rest = ap (λ s. s.now) c.unwrap_or-rest.ensures ∙ lent_rest c.cut_far.result.1 _ refl in
    let so_far = c.loop-rest.invariant in
    let read = c.in-Ok.ensures.read in
    let len = length-append c.loop-rest.growths.0 (read.0 ∷ []) in
    rw (rest, read.2) (
      HasGrowths_more g.R.TextRecord.spelling c.args.input.now c.loop-rest.growths.0 read.0 c.loop-rest.rest.now c.cut_far.result.0.now
          (option_copied c.cut_far.result.1) some whole c.cut_far.ensures.first (shorter_rest _ _ _ some whole) read.1 so_far.0,
      refl,
      omega (arith, so_far.2, len),
      so_far.3,
    )

pub returns-clause-read : goal.returns-clause-read
returns-clause-read g c =
    let none = nil_from_length _ (eqb-true _ 0 (sym c.loop-rest-test.ensures)) in
    HasGroups_all g.R.TextRecord.spelling c.args.input.now _ c.loop-rest.rest.now none c.loop-rest.invariant.0

pub returns-clause-shown : goal.returns-clause-shown
returns-clause-shown g c = rw c.loop-rest.invariant.3 tt

pub returns-clause-none : goal.returns-clause-none
returns-clause-none g c = c.loop-rest.invariant.3
