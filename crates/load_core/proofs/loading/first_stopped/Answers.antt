use Rattle.std.proofs.Common.{◌≡◌, ◌*◌, ◌<◌, length, get_or, inl, inr, ap, subst, ◌∙◌, arith}
use Rattle.load_core.proofs.Stops.{at_place, saturated}
use Rattle.load_core.proofs.loading.first_stopped.Goals as goal

pub returns-in-loop-grower : goal.returns-in-loop-grower
returns-in-loop-grower g c =
    let growers = c.growers-growers.ensures in
    let inside : c.loop-grower.grower < g.S.Source.growers_of c.args.source.now = subst (λ n. c.loop-grower.grower < n) growers c.loop-grower-test.true in
    let made : length c.as_slice.result.now ≡ length c.index.result.now.items = ap length c.as_slice.ensures.value in
    let product = ap (λ n. n * c.growers-growers.result) made ∙ ap (λ n. length c.index.result.now.items * n) growers in (
      c.len.ensures.is,
      record {
        inside = inside;
        its = c.index.result.now;
        its_are = at_place c.args.crewed.now.receipts.items c.loop-grower.grower c.index.result.now (omega (arith, inside, c.requires.0)) c.index.ensures;
        why = elim c.in-Some.ensures [
          | inl has ↦ inl
              (at_place c.args.crewed.now.faults.items c.loop-grower.grower _ (omega (arith, inside, c.requires.1))
              (subst (λ fault. fault ≡ get_or c.args.crewed.now.faults.items c.loop-grower.grower fault) has c.index-in-loop-grower.ensures))
          | inr fewer ↦ inr (fewer.0, omega (arith, fewer.1, made, c.count-count.ensures))
        ];
        line_is = saturated _ _ _ _ _ _ _ _ product c.saturating_mul.ensures c.saturating_add.ensures c.saturating_add-in-loop-grower.ensures;
      },
    )
