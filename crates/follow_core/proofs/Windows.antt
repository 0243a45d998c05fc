-- Windows of lists that stand in pieces.
use Rattle.std.proofs.Common.{◌≡◌, ℕ, zero, suc, ◌-◌, List, [], ◌∷◌, ◌++◌, length, drop, refl, sym, ap, ◌∙◌, arith}

pub drop_none : {X : Type 0} (n : ℕ) → drop {A = X} n [] ≡ []
drop_none zero = refl
drop_none (suc n) = refl

drop_zero : {X : Type 0} (xs : List X) → drop 0 xs ≡ xs
drop_zero [] = refl
drop_zero (x ∷ xs) = refl

pub drop_append : {X : Type 0} (n : ℕ) (xs ys : List X) → drop n (xs ++ ys) ≡ drop n xs ++ drop (n - length xs) ys
drop_append n [] ys = (let same : n ≡ n - 0 = omega arith in ap (λ k. drop k ys) same) ∙ ap (λ ts. ts ++ drop (n - 0) ys) (sym (drop_none n))
drop_append zero (x ∷ xs) ys = ap (λ ts. (x ∷ xs) ++ ts) (sym ((let none : 0 - length (x ∷ xs) ≡ 0 = omega arith in ap (λ k. drop k ys) none) ∙ drop_zero ys))
drop_append (suc n) (x ∷ xs) ys = drop_append n xs ys ∙ (let same : n - length xs ≡ suc n - suc (length xs) = omega arith in ap (λ k. drop n xs ++ drop k ys) same)
