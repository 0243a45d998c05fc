-- Windows of lists that stand in pieces.
use Rattle.std.proofs.Common.{◌≡◌, ℕ, zero, suc, ◌-◌, min, List, [], ◌∷◌, ◌++◌, length, take, drop, length-take, refl, sym, ap, ◌∙◌, arith, inl, inr}
use Rattle.std.proofs.lemmas.Bool.{cases_lt}
use Rattle.std.proofs.lemmas.List.{length-append, length-drop, take_all, drop_all}

take_nil : {X : Type 0} (n : ℕ) → take {A = X} n [] ≡ []
take_nil zero = refl
take_nil (suc n) = refl

drop_nil : {X : Type 0} (n : ℕ) → drop {A = X} n [] ≡ []
drop_nil zero = refl
drop_nil (suc n) = refl

take_none : {X : Type 0} (xs : List X) → take 0 xs ≡ []
take_none [] = refl
take_none (x ∷ xs) = refl

drop_none : {X : Type 0} (xs : List X) → drop 0 xs ≡ xs
drop_none [] = refl
drop_none (x ∷ xs) = refl

take_append : {X : Type 0} (n : ℕ) (xs ys : List X) → take n (xs ++ ys) ≡ take n xs ++ take (n - length xs) ys
take_append n [] ys = (let same : n ≡ n - 0 = omega arith in ap (λ k. take k ys) same) ∙ ap (λ ts. ts ++ take (n - 0) ys) (sym (take_nil n))
take_append zero (x ∷ xs) ys = sym ((let none : 0 - length (x ∷ xs) ≡ 0 = omega arith in ap (λ k. take k ys) none) ∙ take_none ys)
take_append (suc n) (x ∷ xs) ys = ap (λ ts. x ∷ ts) (take_append n xs ys ∙ (let same : n - length xs ≡ suc n - suc (length xs) = omega arith in ap (λ k. take n xs ++ take k ys) same))

drop_append : {X : Type 0} (n : ℕ) (xs ys : List X) → drop n (xs ++ ys) ≡ drop n xs ++ drop (n - length xs) ys
drop_append n [] ys = (let same : n ≡ n - 0 = omega arith in ap (λ k. drop k ys) same) ∙ ap (λ ts. ts ++ drop (n - 0) ys) (sym (drop_nil n))
drop_append zero (x ∷ xs) ys = ap (λ ts. (x ∷ xs) ++ ts) (sym ((let none : 0 - length (x ∷ xs) ≡ 0 = omega arith in ap (λ k. drop k ys) none) ∙ drop_none ys))
drop_append (suc n) (x ∷ xs) ys = drop_append n xs ys ∙ (let same : n - length xs ≡ suc n - suc (length xs) = omega arith in ap (λ k. drop n xs ++ drop k ys) same)

pub take_min : {X : Type 0} (n : ℕ) (xs : List X) → take (min n (length xs)) xs ≡ take n xs
take_min n xs = elim (cases_lt n (length xs)) [
  | inl lt ↦ (let same : min n (length xs) ≡ n = omega (arith, lt) in ap (λ k. take k xs) same)
  | inr ge ↦ (let same : min n (length xs) ≡ length xs = omega (arith, ge) in ap (λ k. take k xs) same ∙ take_all (length xs) xs (omega arith) ∙ sym (take_all n xs ge))
]

pub drop_min : {X : Type 0} (n : ℕ) (xs : List X) → drop (min n (length xs)) xs ≡ drop n xs
drop_min n xs = elim (cases_lt n (length xs)) [
  | inl lt ↦ (let same : min n (length xs) ≡ n = omega (arith, lt) in ap (λ k. drop k xs) same)
  | inr ge ↦ (let same : min n (length xs) ≡ length xs = omega (arith, ge) in ap (λ k. drop k xs) same ∙ drop_all (length xs) xs (omega arith) ∙ sym (drop_all n xs ge))
]

-- one piece more
pub window_more : {X : Type 0} (from count : ℕ) (gone piece : List X)
    → take count (drop from (gone ++ piece)) ≡ take count (drop from gone) ++ take (count - length (drop from gone)) (drop (from - length gone) piece)
window_more from count gone piece = ap (take count) (drop_append from gone piece) ∙ take_append count (drop from gone) (drop (from - length gone) piece)

pub skip_more : {X : Type 0} (from : ℕ) (gone piece : List X) → from - length gone - length piece ≡ from - length (gone ++ piece)
skip_more from gone piece = omega (arith, length-append gone piece)

pub left_more : {X : Type 0} (from count : ℕ) (gone piece : List X)
    → count - length (drop from gone) - length (take (count - length (drop from gone)) (drop (from - length gone) piece))
    ≡ count - length (drop from (gone ++ piece))
left_more from count gone piece =
    let was = length-drop from gone in
    let now = length-drop from (gone ++ piece) in
    let part = length-drop (from - length gone) piece in
    let taken = length-take (count - length (drop from gone)) (drop (from - length gone) piece) in
    omega (arith, was, now, part, taken, length-append gone piece)

-- no piece yet
pub window_none : {X : Type 0} (from count : ℕ) → take {A = X} count (drop from []) ≡ []
window_none from count = ap (take count) (drop_nil from) ∙ take_nil count
