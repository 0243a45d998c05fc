use Rattle.std.proofs.Common.{◌≡◌, ◌+◌, ◌≤◌, ◌^◌, true, false, take, sym, ap, subst, ◌∙◌, rules, arith}
use Rattle.std.proofs.lemmas.List.{length-take}
use Rattle.std.proofs.lemmas.List.Sums.{count_by-le-length, count_by_more_yes, count_by_more_no}
use Rattle.search_core.proofs.slices.count_in.Goals.{then-picks, else-picks}
use Rattle.search_core.proofs.slices.count_in.Goals as goal

pub overflow_add-count : goal.overflow_add-count
overflow_add-count g c =
    let so_far = take c.loop-r.r-index c.args.records.now in
    let all : c.loop-r.count + 1 ≤ 2 ^ 32 =
    omega (arith, c.loop-r.invariant, count_by-le-length (g.P.Pick.picks_of c.args.pick.now) so_far, length-take c.loop-r.r-index c.args.records.now, c.requires.few) in
    search rules

pub loop-r-preserved : goal.loop-r-preserved
loop-r-preserved g c =
    let p = g.P.Pick.picks_of c.args.pick.now in elim c.if-picks.branch [
      | then-picks w ↦
          let yes = subst (λ r. p r ≡ true) c.r-item.is (sym c.picks.ensures ∙ w.if-picks.true) in
          w.count-is ∙ (ap (λ n. n + 1) c.loop-r.invariant ∙ sym (count_by_more_yes p c.args.records.now c.loop-r.r-index c.r-item.result c.loop-r-test.true yes))
      | else-picks w ↦
          let no = subst (λ r. p r ≡ false) c.r-item.is (sym c.picks.ensures ∙ w.if-picks.false) in
          w.count-is ∙ (c.loop-r.invariant ∙ sym (count_by_more_no p c.args.records.now c.loop-r.r-index c.r-item.result c.loop-r-test.true no))
    ]
