use Rattle.std.proofs.Common.{◌≡◌, codes, ap, inl, rules}
use Rattle.text_core.proofs.Small.{nil_from_test, some_from_test}
use Rattle.image_core.proofs.group_line.take_word.Goals as goal

pub returns-then-not-is_begun-clause-bad : goal.returns-then-not-is_begun-clause-bad
returns-then-not-is_begun-clause-bad g c = λ bad.
    let bar : c.args.word.now ≡ codes "|" = search rules in
    inl (bar, nil_from_test c.args.group.now.1 c.is_begun.result c.if-not-is_begun.true c.is_begun.ensures.1)

pub returns-clause-ok : goal.returns-clause-ok
returns-clause-ok g c =
    let ended = c.in_ok-end.ensures.ok in
    let bar : c.args.word.now ≡ codes "|" = search rules in
    inl (record {
      is_bar = bar;
      filled = some_from_test c.args.group.now.1 c.is_begun.result c.if-not-is_begun.false c.is_begun.ensures.0;
      moved = ap (λ v. v.0) ended;
      fresh = ap (λ v. v.1) ended;
    })
