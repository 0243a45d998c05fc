-- Rows of numbers of four bytes each: written, read, and counted one by one.
use Rattle.std.proofs.Common.{◌≡◌, ℕ, zero, suc, ◌+◌, ◌*◌, ◌^◌, ◌≤◌, ◌<◌, Bool, true, false, List, [], ◌∷◌, ◌++◌, length, take, drop, get_or, refl, sym, ap, ◌∙◌, append_assoc, arith}
use Rattle.std.specs.Prelude.{nat_lt, ◌&&◌}
use Rattle.std.specs.List.{flat_map, list_all, AllByRecursion}
use Rattle.std.specs.Int.{w32, to_le_bytes, from_le_bytes}
use Rattle.std.proofs.lemmas.Bool.{ltb-true, lt-ltb}
use Rattle.std.proofs.lemmas.List.{take_at, drop_at, drop-drop, take-append-drop, length-append, length-take-le, length-drop, get_or-drop}
use Rattle.std.proofs.lemmas.Nat.{le_bytes_4, from_le_bytes-to_le_bytes_4}
use Rattle.record_core.specs.Bytes.{IsBytes}
use Rattle.segment_core.specs.Layout.{IsLength, u32_at, numbers_in}

-- ---- bytes

pub IsBytes-drop : (n : ℕ) (bytes : List ℕ) → IsBytes bytes → IsBytes (drop n bytes)
IsBytes-drop n bytes fits i = rw get_or-drop (fits (n + i))

pub IsBytes-take : (n : ℕ) (bytes : List ℕ) → IsBytes bytes → IsBytes (take n bytes)
IsBytes-take zero bytes fits i = omega arith
IsBytes-take (suc n) [] fits i = omega arith
IsBytes-take (suc n) (b ∷ bytes) fits zero = fits 0
IsBytes-take (suc n) (b ∷ bytes) fits (suc i) = IsBytes-take n bytes (λ k. fits (suc k)) i

pub IsBytes-rest : (front rest : List ℕ) → IsBytes (front ++ rest) → IsBytes rest
IsBytes-rest [] rest fits = fits
IsBytes-rest (b ∷ front) rest fits = IsBytes-rest front rest (λ k. fits (suc k))

-- ---- one number

pub u32_at_first : (n : ℕ) (rest : List ℕ) → n < 2 ^ 32 → u32_at (to_le_bytes w32 n ++ rest) 0 ≡ n
unfolding u32_at
u32_at_first n rest lt = ap (from_le_bytes w32) (take_at (to_le_bytes w32 n) rest 4 refl) ∙ from_le_bytes-to_le_bytes_4 n lt

pub u32_at-drop : (bytes : List ℕ) (n i : ℕ) → u32_at (drop n bytes) i ≡ u32_at bytes (n + i)
unfolding u32_at
u32_at-drop bytes n i = ap (λ (bs : List ℕ). from_le_bytes w32 (take 4 bs)) (drop-drop i n bytes)

-- the bytes of a number that was read
pub u32_written : (bytes : List ℕ) → IsBytes bytes → 4 ≤ length bytes → to_le_bytes w32 (u32_at bytes 0) ≡ take 4 bytes
unfolding u32_at
u32_written bytes fits long = le_bytes_4 (take 4 bytes) (u32_at bytes 0) (length-take-le 4 bytes long) (IsBytes-take 4 bytes fits) refl

pub u32_small : (bytes : List ℕ) (i : ℕ) → IsBytes bytes → u32_at bytes i < 2 ^ 32
unfolding u32_at
u32_small bytes i fits =
    let b = IsBytes-take 4 (drop i bytes) (IsBytes-drop i bytes fits) in
    omega (arith, b 0, b 1, b 2, b 3)

-- ---- a row of numbers

pub length-numbers_in : (n : ℕ) (bytes : List ℕ) → length (numbers_in n bytes) ≡ n
length-numbers_in zero bytes = refl
length-numbers_in (suc n) bytes = ap suc (length-numbers_in n (drop 4 bytes))

pub get_or-numbers_in : (n : ℕ) (bytes : List ℕ) (k : ℕ) → k < n → get_or (numbers_in n bytes) k 0 ≡ u32_at bytes (k * 4)
get_or-numbers_in zero bytes k lt = absurd (omega arith)
get_or-numbers_in (suc n) bytes zero lt = refl
get_or-numbers_in (suc n) bytes (suc k) lt =
    let next : 4 + k * 4 ≡ suc k * 4 = omega arith in
    get_or-numbers_in n (drop 4 bytes) k (omega arith) ∙ u32_at-drop bytes 4 (k * 4) ∙ ap (u32_at bytes) next

pub numbers_in_more : (n : ℕ) (bytes : List ℕ) → numbers_in (n + 1) bytes ≡ numbers_in n bytes ++ u32_at bytes (n * 4) ∷ []
numbers_in_more zero bytes = refl
numbers_in_more (suc n) bytes =
    let more : suc n + 1 ≡ suc (n + 1) = omega arith in
    let next : 4 + n * 4 ≡ suc n * 4 = omega arith in
    let last : u32_at (drop 4 bytes) (n * 4) ≡ u32_at bytes (suc n * 4) = u32_at-drop bytes 4 (n * 4) ∙ ap (u32_at bytes) next in
    ap (λ k. numbers_in k bytes) more
    ∙ ap (λ (ns : List ℕ). u32_at bytes 0 ∷ ns) (numbers_in_more n (drop 4 bytes) ∙ ap (λ x. numbers_in n (drop 4 bytes) ++ x ∷ []) last)

pub length-numbers_text : (lengths : List ℕ) → length (flat_map (to_le_bytes w32) lengths) ≡ length lengths * 4
length-numbers_text [] = refl
length-numbers_text (n ∷ lengths) =
    let more = length-numbers_text lengths in
    length-append (to_le_bytes w32 n) (flat_map (to_le_bytes w32) lengths) ∙ omega arith

-- what was written is read again
pub numbers_in-written : (lengths : List ℕ) (rest : List ℕ) → AllByRecursion IsLength lengths → numbers_in (length lengths) (flat_map (to_le_bytes w32) lengths ++ rest) ≡ lengths
numbers_in-written [] rest each = refl
numbers_in-written (n ∷ lengths) rest each =
    let text : List ℕ = flat_map (to_le_bytes w32) lengths in
    let first : u32_at ((to_le_bytes w32 n ++ text) ++ rest) 0 ≡ n = ap (λ (bs : List ℕ). u32_at bs 0) (append_assoc (to_le_bytes w32 n) text rest) ∙ u32_at_first n (text ++ rest) each.0.1 in
    let others : drop 4 ((to_le_bytes w32 n ++ text) ++ rest) ≡ text ++ rest = ap (drop 4) (append_assoc (to_le_bytes w32 n) text rest) ∙ drop_at (to_le_bytes w32 n) (text ++ rest) 4 refl in
    ap (λ x. x ∷ numbers_in (length lengths) (drop 4 ((to_le_bytes w32 n ++ text) ++ rest))) first
    ∙ ap (λ (ns : List ℕ). n ∷ ns) (ap (numbers_in (length lengths)) others ∙ numbers_in-written lengths rest each.1)

-- what was read is written as it stood
pub numbers_text-numbers_in : (n : ℕ) (bytes : List ℕ) → IsBytes bytes → n * 4 ≤ length bytes → flat_map (to_le_bytes w32) (numbers_in n bytes) ++ drop (n * 4) bytes ≡ bytes
numbers_text-numbers_in zero bytes fits long = refl
numbers_text-numbers_in (suc n) bytes fits long =
    let enough : 4 ≤ length bytes = omega arith in
    let first = u32_written bytes fits enough in
    let next : suc n * 4 ≡ 4 + n * 4 = omega arith in
    let left : n * 4 ≤ length (drop 4 bytes) = omega (arith, length-drop 4 bytes) in
    let others = numbers_text-numbers_in n (drop 4 bytes) (IsBytes-drop 4 bytes fits) left in
    let text : List ℕ = flat_map (to_le_bytes w32) (numbers_in n (drop 4 bytes)) in
    append_assoc (to_le_bytes w32 (u32_at bytes 0)) text (drop (suc n * 4) bytes)
    ∙ ap (λ (bs : List ℕ). to_le_bytes w32 (u32_at bytes 0) ++ (text ++ bs)) (ap (λ k. drop k bytes) next ∙ sym (drop-drop (n * 4) 4 bytes))
    ∙ ap (λ (bs : List ℕ). to_le_bytes w32 (u32_at bytes 0) ++ bs) others
    ∙ ap (λ (bs : List ℕ). bs ++ drop 4 bytes) first
    ∙ take-append-drop 4 bytes

-- ---- tests of all numbers

pub both_true : (a b : Bool) → (a && b) ≡ true → (a ≡ true) × (b ≡ true)
both_true true b e = (refl, e)
both_true false b e = absurd cc

pub true_both : (a b : Bool) → a ≡ true → b ≡ true → (a && b) ≡ true
true_both true b p q = q
true_both false b p q = absurd cc

pub first_false : (a b : Bool) → a ≡ false → (a && b) ≡ false
first_false true b p = absurd cc
first_false false b p = refl

pub second_false : (a b : Bool) → b ≡ false → (a && b) ≡ false
second_false true b q = q
second_false false b q = refl

pub list_all-append : {X : Type 0} (test : X → Bool) (xs ys : List X) → list_all test xs ≡ true → list_all test ys ≡ true → list_all test (xs ++ ys) ≡ true
list_all-append test [] ys all more = more
list_all-append test (x ∷ xs) ys all more =
    let parts = both_true (test x) (list_all test xs) all in
    true_both (test x) (list_all test (xs ++ ys)) parts.0 (list_all-append test xs ys parts.1 more)

pub lengths_positive : (n : ℕ) (bytes : List ℕ) → IsBytes bytes → list_all (nat_lt 0) (numbers_in n bytes) ≡ true → AllByRecursion IsLength (numbers_in n bytes)
lengths_positive zero bytes fits all = tt
lengths_positive (suc n) bytes fits all =
    let parts = both_true (nat_lt 0 (u32_at bytes 0)) (list_all (nat_lt 0) (numbers_in n (drop 4 bytes))) all in
    ((ltb-true 0 (u32_at bytes 0) parts.0, u32_small bytes 0 fits), lengths_positive n (drop 4 bytes) (IsBytes-drop 4 bytes fits) parts.1)

pub positive_lengths : (lengths : List ℕ) → AllByRecursion IsLength lengths → list_all (nat_lt 0) lengths ≡ true
positive_lengths [] each = refl
positive_lengths (n ∷ lengths) each = true_both (nat_lt 0 n) (list_all (nat_lt 0) lengths) (lt-ltb 0 n each.0.0) (positive_lengths lengths each.1)

pub not_positive : (n : ℕ) (bytes : List ℕ) (k : ℕ) → k < n → u32_at bytes (k * 4) ≡ 0 → list_all (nat_lt 0) (numbers_in n bytes) ≡ false
not_positive zero bytes k lt is = absurd (omega arith)
not_positive (suc n) bytes zero lt is = first_false (nat_lt 0 (u32_at bytes 0)) (list_all (nat_lt 0) (numbers_in n (drop 4 bytes))) (ap (nat_lt 0) is)
not_positive (suc n) bytes (suc k) lt is =
    let next : 4 + k * 4 ≡ suc k * 4 = omega arith in
    second_false (nat_lt 0 (u32_at bytes 0)) (list_all (nat_lt 0) (numbers_in n (drop 4 bytes)))
    (not_positive n (drop 4 bytes) k (omega arith) (u32_at-drop bytes 4 (k * 4) ∙ ap (u32_at bytes) next ∙ is))
