use Rattle.std.proofs.Common.{◌≤◌, ◌<◌, ◌+◌, ◌^◌, ℕ, Vec, Global, IsPermutation, subst, sym, arith}
use Rattle.std.proofs.lemmas.Result.{IfOk-weaker}
use Rattle.std.proofs.lemmas.List.Sorted.{All-permutation}
use Rattle.pen_core.specs.Covered.{IsCover}
use Rattle.pen_core.proofs.Covers.{IsCover-moved}
use Rattle.pen_core.proofs.covered.cover.Goals as goal

pub sweep-requires-clause-some : goal.sweep-requires-clause-some
sweep-requires-clause-some c = rw c.deref.ensures.value (All-permutation (λ run. 0 < run.1) _ _ c.in_ok-in_order.ensures.moved c.requires.some)

pub sweep-requires-clause-inside : goal.sweep-requires-clause-inside
sweep-requires-clause-inside c =
    rw c.deref.ensures.value
    (All-permutation (λ run. run.0 + run.1 ≤ 2 ^ 32) _ _ c.in_ok-in_order.ensures.moved c.requires.inside)

pub returns : goal.returns
returns c =
    let given = c.args.runs.now in
    let moved : IsPermutation given c.deref.result.now = subst (IsPermutation given) (sym c.deref.ensures.value) c.in_ok-in_order.ensures.moved in
    IfOk-weaker c.sweep.result (λ (v : Vec (ℕ × ℕ) Global). IsCover c.deref.result.now v.items)
    (λ (v : Vec (ℕ × ℕ) Global). IsCover given v.items) (λ v is. IsCover-moved given c.deref.result.now v.items moved is)
    c.sweep.ensures
