use Rattle.std.proofs.Common.{◌≡◌, ℕ, Bool, true, false, List, get_or, sym, subst, ◌∙◌}
use Rattle.std.proofs.lemmas.List.Sums.{count_by_more_no}
use Rattle.search_core.proofs.Firsts.{some_at}
use Rattle.search_core.proofs.equal.first_equal.Goals as goal

told_at : {R : Type 0} (is : R → Bool) (records : List R) (k : ℕ) (r : R) (told b : Bool) → r ≡ get_or records k r → told ≡ is r → told ≡ b → is (get_or records k r) ≡ b
told_at is records k r told b same by answer = subst (λ x. is x ≡ b) same (sym by ∙ answer)

pub returns-then-eq : goal.returns-then-eq
returns-then-eq g c = (
  c.loop-k.invariant,
  some_at (λ r. g.R.PartialEq.eq r c.args.wanted ≡ true) c.args.records.now c.loop-k.k c.index-records-k.result c.loop-k-test.true
      (told_at (λ r. g.R.PartialEq.eq r c.args.wanted) c.args.records.now c.loop-k.k c.index-records-k.result c.eq.result true c.index-records-k.is c.eq.ensures c.if-eq.true),
)

pub loop-k-preserved : goal.loop-k-preserved
loop-k-preserved g c =
    count_by_more_no (λ r. g.R.PartialEq.eq r c.args.wanted) c.args.records.now c.loop-k.k c.index-records-k.result c.loop-k-test.true
    (told_at (λ r. g.R.PartialEq.eq r c.args.wanted) c.args.records.now c.loop-k.k c.index-records-k.result c.eq.result false c.index-records-k.is c.eq.ensures c.if-eq.false)
    ∙ c.loop-k.invariant
