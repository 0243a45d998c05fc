-- Texts of two halves with a colon between them, of which the first has none.
use Rattle.std.specs.Prelude.{◌≡◌, ◌≢◌, ℕ, ◌<◌, ◌≤◌, ◌^◌, List, [], ◌∷◌, ◌++◌, true, false, ◌==◌, decimal}
use Rattle.std.specs.List.{All, slice_split}
use Rattle.std.proofs.Common.{arith, refl, sym, ap, ◌∙◌}
use Rattle.std.proofs.lemmas.Bool.Decides.{nat_tests}
use Rattle.std.proofs.lemmas.List.{length-append, append_cancel_left}
use Rattle.std.proofs.lemmas.List.Elements.{All-append, All-cons, All-weaker, All-head, All-tail}
use Rattle.std.proofs.lemmas.List.Splits.{slice_split_at}
use Rattle.text_core.specs.Text.{IsWord, is_word_byte}
use Rattle.text_core.specs.Numbers.{All-decimal}

abbrev pub halves_text : List ℕ → List ℕ → List ℕ
halves_text first second = first ++ 58 ∷ second

abbrev pub HasNoColon : List ℕ → Type 0
HasNoColon text = All (λ b. b ≢ 58) text

digit_is_no_colon : (b : ℕ) → 48 ≤ b → b ≤ 57 → b ≢ 58
digit_is_no_colon b low high = λ is. absurd (omega (arith, high, is))

pub HasNoColon-decimal : (bits : ℕ) → bits ≤ 64 → (n : ℕ) → n < 2 ^ bits → HasNoColon (decimal n)
HasNoColon-decimal = All-decimal (λ b. b ≢ 58) digit_is_no_colon

pub IsWord-halves : (first second : List ℕ) → IsWord first → IsWord second → IsWord (halves_text first second)
IsWord-halves first second one other = record {
  some = let len = length-append first (58 ∷ second) in let some = one.some in omega (arith, len, some);
  plain = All-append (λ b. is_word_byte b ≡ true) first (58 ∷ second) one.plain (All-cons (λ b. is_word_byte b ≡ true) 58 second refl other.plain);
}

-- ---- a text has one pair of halves

differs : (b : ℕ) → b ≢ 58 → (b == 58) ≡ false
differs b apart = grind (arith, nat_tests)

split_halves : (first second : List ℕ) → HasNoColon first → slice_split (λ b. b == 58) (halves_text first second) ≡ first ∷ slice_split (λ b. b == 58) second
split_halves first second plain = slice_split_at (λ b. b == 58) first 58 second (All-weaker (λ b. b ≢ 58) (λ b. (b == 58) ≡ false) differs first plain) refl

first_is : (x y : List ℕ) (xs ys : List (List ℕ)) → x ∷ xs ≡ y ∷ ys → x ≡ y
first_is x y xs ys is = cc

rest_is : (x y : ℕ) (xs ys : List ℕ) → x ∷ xs ≡ y ∷ ys → xs ≡ ys
rest_is x y xs ys is = cc

pub first_half : (a b c d : List ℕ) → HasNoColon a → HasNoColon c → halves_text a b ≡ halves_text c d → a ≡ c
first_half a b c d plain other same =
    first_is a c _ _ (sym (split_halves a b plain) ∙ ap (slice_split (λ n. n == 58)) same ∙ split_halves c d other)

pub second_half : (a b c d : List ℕ) → HasNoColon a → HasNoColon c → halves_text a b ≡ halves_text c d → b ≡ d
second_half a b c d plain other same =
    rest_is 58 58 b d (append_cancel_left a (58 ∷ b) (58 ∷ d) (same ∙ ap (λ (t : List ℕ). t ++ 58 ∷ d) (sym (first_half a b c d plain other same))))

-- where there are halves there is a colon
pub some_colon : (first second : List ℕ) → HasNoColon (halves_text first second) → ⊥
some_colon [] second plain = All-head (λ b. b ≢ 58) 58 second plain refl
some_colon (b ∷ first) second plain = some_colon first second (All-tail (λ b. b ≢ 58) b (halves_text first second) plain)
