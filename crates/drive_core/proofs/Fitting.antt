-- What one payload holds, and cuts of lists.
use Rattle.std.proofs.Common.{◌≡◌, ◌⊎◌, inl, inr, ℕ, zero, suc, ◌+◌, ◌-◌, ◌*◌, ◌≤◌, ◌<◌, Bool, true, false, if◌then◌else◌, nat_le, List, [], ◌∷◌, ◌++◌, length, map, take, drop, refl, sym, ap, ◌∙◌, arith, length-append, leb-true, leb-false}
use Rattle.segment_core.specs.Written.{joined, payload_len}
use Rattle.block_core.specs.Growth as block
use Rattle.flush_core.specs.Group.{IsGreatest}
use Rattle.drive_core.specs.World.{fitting, command_records}
use Rattle.drive_core.specs.Ties.{grow_of}

-- ---- what one payload holds

-- the bytes that so many growths take
abbrev cost : {R : Type 0} → ℕ → List (List R) → ℕ
cost width [] = 0
cost width (growth ∷ growths) = (4 + length growth * width) + cost width growths

module _ {R : Type 0} (width : ℕ) where
  payload_cost : (growths : List (List R)) → payload_len width growths ≡ 4 + cost width growths
  payload_cost [] = omega arith
  payload_cost (growth ∷ growths) =
      let rest = payload_cost growths in
      let long = length-append growth (joined growths) in
      let much : length (growth ++ joined growths) * width ≡ length growth * width + length (joined growths) * width = ap (λ n. n * width) long ∙ grind arith in
      omega (arith, rest, much)

  fits : (room : ℕ) (growths : List (List R)) (n : ℕ) → n ≤ length growths → cost width (take n growths) ≤ room → (n < length growths → room < cost width (take (n + 1) growths))
      → fitting width room growths ≡ n
  fits room [] n there le most = omega (arith, there)
  fits room (growth ∷ growths) zero there le most = at (nat_le (4 + length growth * width) room) refl
    where
      at : (b : Bool) → nat_le (4 + length growth * width) room ≡ b → (if b then 1 + fitting width (room - (4 + length growth * width)) growths else 0) ≡ 0
      at true is = let more = most (omega arith) in (let within = leb-true (4 + length growth * width) room is in absurd (omega (arith, more, within)))
      at false is = refl
  fits room (growth ∷ growths) (suc n) there le most = at (λ left less more. fits left growths n (omega (arith, there)) less more) (nat_le (4 + length growth * width) room) refl
    where
      one_more : suc n + 1 ≡ suc (n + 1)
      one_more = omega arith

      at : ((left : ℕ) → cost width (take n growths) ≤ left → (n < length growths → left < cost width (take (n + 1) growths)) → fitting width left growths ≡ n)
          → (b : Bool) → nat_le (4 + length growth * width) room ≡ b → (if b then 1 + fitting width (room - (4 + length growth * width)) growths else 0) ≡ suc n
      at again true is =
          let within = leb-true (4 + length growth * width) room is in
          let next : cost width (take (suc n + 1) (growth ∷ growths)) ≡ (4 + length growth * width) + cost width (take (n + 1) growths)
          = ap (λ k. cost width (take k (growth ∷ growths))) one_more in
          let rest = again (room - (4 + length growth * width)) (omega (arith, le)) (λ less. let more = most (omega (arith, less)) in omega (arith, more, next)) in
          omega (arith, rest)
      at again false is = let past = leb-false (4 + length growth * width) room is in absurd (omega (arith, le, past))

  pub greatest_fits : (limit : ℕ) (growths : List (List R)) (n : ℕ) → 4 ≤ limit → IsGreatest width limit growths n → fitting width (limit - 4) growths ≡ n
  greatest_fits limit growths n four greatest =
      let there = greatest.there in
      let within = greatest.fits in
      let whole = payload_cost (take n growths) in
      fits (limit - 4) growths n there (omega (arith, within, whole, four))
      (λ less. let more = greatest.most less in let one = payload_cost (take (n + 1) growths) in omega (arith, more, one, four))

-- ---- cuts of lists

module _ {A : Type 0} where
  take-nothing : (k : ℕ) → ◌≡◌ {A = List A} (take k []) []
  take-nothing zero = refl
  take-nothing (suc k) = refl

  drop-all : (t : ℕ) (xs : List A) → length xs ≤ t → drop t xs ≡ []
  drop-all zero [] le = refl
  drop-all zero (x ∷ xs) le = absurd (omega (arith, le))
  drop-all (suc t) [] le = refl
  drop-all (suc t) (x ∷ xs) le = drop-all t xs (omega (arith, le))

  take-drop_sum : (t k m : ℕ) (xs : List A) → m ≡ t + k → take k (drop t xs) ≡ drop t (take m xs)
  take-drop_sum zero k m xs is = ap (λ n. take n xs) (sym (omega (arith, is)))
  take-drop_sum (suc t) k m [] is = take-nothing k ∙ sym (ap (drop (suc t)) (take-nothing m))
  take-drop_sum (suc t) k zero (x ∷ xs) is = absurd (omega (arith, is))
  take-drop_sum (suc t) k (suc m) (x ∷ xs) is = take-drop_sum t k m xs (omega (arith, is))

  short : (n : ℕ) (xs : List A) → length (take n xs) ≤ n
  short zero xs = omega arith
  short (suc n) [] = omega arith
  short (suc n) (x ∷ xs) = let rest = short n xs in omega (arith, rest)

  pub take-drop : (t n : ℕ) (xs : List A) → take (n - t) (drop t xs) ≡ drop t (take n xs)
  take-drop t n xs = at (nat_le t n) refl
    where
      at : (b : Bool) → nat_le t n ≡ b → take (n - t) (drop t xs) ≡ drop t (take n xs)
      at true is = let le = leb-true t n is in take-drop_sum t (n - t) n xs (omega (arith, le))
      at false is =
          let less = leb-false t n is in
          let few = short n xs in
          ap (λ k. take k (drop t xs)) (let none : n - t ≡ 0 = omega (arith, less) in none) ∙ sym (drop-all t (take n xs) (omega (arith, few, less)))

pub drop-map : {A B : Type 0} (f : A → B) (t : ℕ) (xs : List A) → drop t (map f xs) ≡ map f (drop t xs)
drop-map f zero xs = refl
drop-map f (suc t) [] = refl
drop-map f (suc t) (x ∷ xs) = drop-map f t xs

pub records-grown : {R : Type 0} (entries : List (block.Growth R)) → map command_records (map grow_of entries) ≡ map (λ e. e.records) entries
records-grown [] = refl
records-grown (e ∷ entries) = ap (λ rest. e.records ∷ rest) (records-grown entries)

pub zero_or_more : (n : ℕ) → (n ≡ 0) ⊎ (0 < n)
zero_or_more zero = inl refl
zero_or_more (suc n) = inr (omega arith)
