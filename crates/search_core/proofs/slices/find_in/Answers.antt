use Rattle.std.proofs.Common.{◌≡◌, true, false, sym, subst, ◌∙◌}
use Rattle.std.proofs.lemmas.List.Sums.{count_by_more_no}
use Rattle.search_core.proofs.Firsts.{some_at}
use Rattle.search_core.proofs.slices.find_in.Goals as goal

pub returns-then-picks : goal.returns-then-picks
returns-then-picks g c =
    let p = g.P.Pick.picks_of c.args.pick.now in (
      c.loop-k.invariant,
      some_at (λ r. p r ≡ true) c.args.records.now c.loop-k.k c.index-records-k.result c.loop-k-test.true
          (subst (λ r. p r ≡ true) c.index-records-k.is (sym c.picks.ensures ∙ c.if-picks.true)),
    )

pub loop-k-preserved : goal.loop-k-preserved
loop-k-preserved g c =
    let p = g.P.Pick.picks_of c.args.pick.now in
    let no = subst (λ r. p r ≡ false) c.index-records-k.is (sym c.picks.ensures ∙ c.if-picks.false) in
    count_by_more_no p c.args.records.now c.loop-k.k c.index-records-k.result c.loop-k-test.true no ∙ c.loop-k.invariant
