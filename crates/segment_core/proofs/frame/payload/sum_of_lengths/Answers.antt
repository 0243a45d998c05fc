use Rattle.std.proofs.Common.{◌≡◌, ◌+◌, ◌*◌, ◌^◌, ◌<◌, true, List, [], ◌∷◌, ◌++◌, drop, sum, refl, sym, ap, ◌∙◌, arith, ℕ}
use Rattle.std.specs.Prelude.{nat_lt}
use Rattle.std.specs.List.{list_all}
use Rattle.std.proofs.lemmas.Bool.{lt-ltb}
use Rattle.std.proofs.lemmas.List.Sums.{sum_by_push}
use Rattle.segment_core.specs.Layout.{u32_at, numbers_in}
use Rattle.segment_core.proofs.Numbers.{u32_at-drop, numbers_in_more, list_all-append, true_both, not_positive}
use Rattle.segment_core.proofs.frame.payload.sum_of_lengths.Goals as goal

pub returns-then-length-eq0 : goal.returns-then-length-eq0
returns-then-length-eq0 c =
    not_positive c.args.growths (drop 4 c.args.payload.now) c.loop-k.k c.loop-k-test.true (u32_at-drop c.args.payload.now 4 (c.loop-k.k * 4) ∙ sym c.u32_at-length.ensures ∙ c.if-length-eq0.true)

pub loop-k-preserved : goal.loop-k-preserved
loop-k-preserved c =
    let bytes : List ℕ = drop 4 c.args.payload.now in
    let k : ℕ = c.loop-k.k in
    let n : ℕ = c.u32_at-length.result in
    let here : u32_at bytes (k * 4) ≡ n = u32_at-drop c.args.payload.now 4 (k * 4) ∙ sym c.u32_at-length.ensures in
    let more : numbers_in (k + 1) bytes ≡ numbers_in k bytes ++ n ∷ [] = numbers_in_more k bytes ∙ ap (λ x. numbers_in k bytes ++ x ∷ []) here in
    let positive : 0 < n = let apart = c.if-length-eq0.false in omega arith in
    let below : n < 2 ^ 32 = omega arith in
    record {
      positive = ap (list_all (nat_lt 0)) more ∙ list_all-append (nat_lt 0) (numbers_in k bytes) (n ∷ []) c.loop-k.invariant.positive (true_both (nat_lt 0 n) true (lt-ltb 0 n positive) refl);
      counted = ap (λ x. x + n) c.loop-k.invariant.counted ∙ sym (sum_by_push (λ x. x) (numbers_in k bytes) n) ∙ ap sum (sym more);
      small = omega arith;
    }
