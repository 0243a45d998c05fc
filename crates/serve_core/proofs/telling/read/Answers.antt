use Rattle.std.proofs.Common.{◌≡◌, length, take, min, inr, refl, ap, ◌∙◌, arith}
use Rattle.std.proofs.lemmas.List.{take_min}
use Rattle.serve_core.proofs.telling.read.Goals as goal

pub returns-clause-told : goal.returns-clause-told
returns-clause-told g c =
    let rest = c.in-Some.rest.now in
    let least : c.min-len.result ≡ min c.args.count (length rest) = (let is = c.min-len.ensures in omega (arith, is)) in
    (refl, c.in-Some.ensures.same, c.in_default.ensures, inr (rest, c.in-Some.ensures.value, ap (λ n. take n rest) least ∙ take_min c.args.count rest))
