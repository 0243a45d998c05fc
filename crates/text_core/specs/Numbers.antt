-- The text of numbers: digits, with no zero in front.
use Rattle.std.specs.Prelude.{◌≡◌, ◌≢◌, ℕ, List, length, slice_index, ◌<◌, ◌≤◌, ◌^◌, decimal, true}
use Rattle.std.specs.List.{All}
use Rattle.std.proofs.Common.{arith}
use Rattle.std.proofs.Math.Pow.{pow_mono}
use Rattle.std.proofs.lemmas.Bool.Decides.{nat_tests}
use Rattle.std.proofs.lemmas.Fmt.{decimal_nonempty, decimal_is_IsNumeral, decimal_injective}
use Rattle.std.proofs.lemmas.List.Elements.{All-from_get_or}
use Rattle.std.proofs.lemmas.Str.Parse.{digit_at}
use Rattle.text_core.specs.Text.{Spelling, AreWords, HasOneValue, is_word_byte}

-- something stands there, and no plus or zero in front of it
pub record BeginsAsNumber (text : List ℕ) : Type 0 where
  pub some : 0 < length text
  pub no_plus : slice_index text 0 ≢ 43
  pub no_zero : slice_index text 0 ≡ 48 → length text ≡ 1

-- ---- numbers of so many bits, 64 at most

abbrev pub number_spelling : ℕ → Spelling ℕ
number_spelling bits = record { is_value = λ n. n < 2 ^ bits; text_of = decimal }

pub fits_64 : (bits : ℕ) → bits ≤ 64 → (n : ℕ) → n < 2 ^ bits → n < 2 ^ 64
fits_64 bits few n small = let wide = pow_mono few in omega (arith, wide, small)

-- what holds of every digit
pub All-decimal : (P : ℕ → Type 0) → ((b : ℕ) → 48 ≤ b → b ≤ 57 → P b) → (bits : ℕ) → bits ≤ 64 → (n : ℕ) → n < 2 ^ bits → All P (decimal n)
All-decimal P of_digit bits few n small =
    All-from_get_or P (decimal n) 0 (λ i lt. let range = digit_at (decimal n) i (decimal_is_IsNumeral n (fits_64 bits few n small)).0.1 lt in of_digit _ range.0 range.1)

digit_is_word_byte : (b : ℕ) → 48 ≤ b → b ≤ 57 → is_word_byte b ≡ true
digit_is_word_byte b low high = grind (arith, nat_tests)

pub IsWord-decimal : (bits : ℕ) → bits ≤ 64 → AreWords (number_spelling bits)
IsWord-decimal bits few n small = record {
  some = decimal_nonempty n (fits_64 bits few n small);
  plain = All-decimal (λ b. is_word_byte b ≡ true) digit_is_word_byte bits few n small;
}

pub one_decimal : (bits : ℕ) → bits ≤ 64 → HasOneValue (number_spelling bits)
one_decimal bits few m n small other = decimal_injective m n (fits_64 bits few m small) (fits_64 bits few n other)
