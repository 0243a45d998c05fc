-- The text of flags: a digit, 0 or 1.
use Rattle.std.specs.Prelude.{◌≡◌, ℕ, List, [], ◌∷◌, Bool, true, false, codes, slice_index}
use Rattle.std.proofs.Common.{arith, refl, ap}
use Rattle.std.proofs.lemmas.List.Elements.{All-cons, All-nil}
use Rattle.text_core.specs.Text.{IsWord, is_word_byte}

abbrev pub flag_text : Bool → List ℕ
flag_text false = codes "0"
flag_text true = codes "1"

one_digit : (b : ℕ) → is_word_byte b ≡ true → IsWord (b ∷ [])
one_digit b plain = record {
  some = omega arith;
  plain = All-cons (λ c. is_word_byte c ≡ true) b [] plain (All-nil (λ c. is_word_byte c ≡ true));
}

pub IsWord-flag : (flag : Bool) → IsWord (flag_text flag)
IsWord-flag false = one_digit 48 refl
IsWord-flag true = one_digit 49 refl

pub one_flag : (a b : Bool) → flag_text a ≡ flag_text b → a ≡ b
one_flag false false same = refl
one_flag false true same = let digit : 48 ≡ 49 = ap (λ (t : List ℕ). slice_index t 0) same in absurd (omega (arith, digit))
one_flag true false same = let digit : 49 ≡ 48 = ap (λ (t : List ℕ). slice_index t 0) same in absurd (omega (arith, digit))
one_flag true true same = refl
