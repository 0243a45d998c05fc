use Rattle.std.proofs.Common.{List, sym, subst}
use Rattle.std.proofs.lemmas.Result.{err_from_is_err_and}
use Rattle.segment_core.specs.Frame.{Frame}
use Rattle.beside_core.specs.Bookmark.{LiesBehind}
use Rattle.follow_core.proofs.PlaceLemmas.{lies_behind}
use Rattle.follow_core.proofs.events.first_mark.Goals as goal

pub returns-in_err-first-clause-begins : goal.returns-in_err-first-clause-begins
returns-in_err-first-clause-begins g c =
    let p = err_from_is_err_and c.from_residual.result c.from_residual.ensures.1 in
    rw (p.1, p.2) (λ kept shape frames known file begins. c.in_err-first.ensures.behind kept shape frames file)

pub returns-in-None-clause-begins : goal.returns-in-None-clause-begins
returns-in-None-clause-begins g c = λ kept shape frames known file begins.
    subst (λ (fs : List Frame). LiesBehind shape fs c.in_ok-first.first) (sym (rw c.in-None.is at begins)) (c.in_ok-first.ensures.behind kept shape frames file)

pub returns-in-Some-at-clause-begins : goal.returns-in-Some-at-clause-begins
returns-in-Some-at-clause-begins g c = λ kept shape frames known file begins.
    lies_behind shape known c.in_ok-first.first c.in-Some-at.mark c.in-Some.place c.tally.result (c.in_ok-first.ensures.behind kept shape frames file) (rw c.in-Some.is at begins)
    c.tally.ensures.size c.tally.ensures.changes c.tally.ensures.folded c.in-Some-at.ensures.found.0 c.in-Some-at.ensures.found.1 c.in-Some-at.ensures.found.2
