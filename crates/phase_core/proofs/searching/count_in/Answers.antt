use Rattle.std.proofs.Common.{◌≡◌, ◌+◌, ◌≤◌, ◌^◌, true, false, take, sym, ap, subst, ◌∙◌, rules, arith}
use Rattle.std.proofs.lemmas.List.{length-take}
use Rattle.std.proofs.lemmas.List.Sums.{count_by-le-length, count_by_more_yes, count_by_more_no}
use Rattle.phase_core.specs.Grower.{equals}
use Rattle.phase_core.proofs.searching.count_in.Goals.{then-eq, else-eq}
use Rattle.phase_core.proofs.searching.count_in.Goals as goal

pub overflow_add-count : goal.overflow_add-count
overflow_add-count g c =
    let so_far = take c.loop-record.record-index c.args.records.now in
    let all : c.loop-record.count + 1 ≤ 2 ^ 32 =
    omega (arith, c.loop-record.invariant, count_by-le-length (equals g.R.PartialEq.eq c.args.sought) so_far, length-take c.loop-record.record-index c.args.records.now, c.requires.few) in
    search rules

pub loop-record-preserved : goal.loop-record-preserved
loop-record-preserved g c =
    let p = equals g.R.PartialEq.eq c.args.sought in elim c.if-eq.branch [
      | then-eq w ↦
          let yes = subst (λ r. p r ≡ true) c.record-item.is (sym c.eq.ensures ∙ w.if-eq.true) in
          w.count-is ∙ (ap (λ n. n + 1) c.loop-record.invariant ∙ sym (count_by_more_yes p c.args.records.now c.loop-record.record-index c.record-item.result c.loop-record-test.true yes))
      | else-eq w ↦
          let no = subst (λ r. p r ≡ false) c.record-item.is (sym c.eq.ensures ∙ w.if-eq.false) in
          w.count-is ∙ (c.loop-record.invariant ∙ sym (count_by_more_no p c.args.records.now c.loop-record.record-index c.record-item.result c.loop-record-test.true no))
    ]
