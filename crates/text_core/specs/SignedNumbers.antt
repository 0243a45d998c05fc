-- The text of signed numbers: that of the number, with a minus in front where it is below 0.
use Rattle.std.specs.Prelude.{◌≡◌, ℕ, ℤ, pos, negsuc, ◌<◌, ◌≤◌, ◌^◌, ◌∷◌, true, decimal, FitsSigned}
use mir.Val.{hbits}
use Rattle.std.specs.Int.{Width, w64}
use Rattle.std.specs.Fmt.{signed_decimal}
use Rattle.std.proofs.Common.{arith, refl, suc, lit≤}
use Rattle.std.proofs.Math.Pow.{pow_mono}
use Rattle.std.proofs.lemmas.Fmt.{signed_decimal_injective}
use Rattle.std.proofs.lemmas.List.Elements.{All-cons}
use Rattle.text_core.specs.Text.{Spelling, AreWords, HasOneValue, IsWord, is_word_byte}
use Rattle.text_core.specs.Numbers.{IsWord-decimal}

-- ---- numbers of a width of 64 bits at most

abbrev pub signed_spelling : Width → Spelling ℤ
signed_spelling w = record { is_value = FitsSigned w; text_of = signed_decimal }

pub fits_w64 : (w : Width) → hbits w ≤ 63 → (z : ℤ) → FitsSigned w z → FitsSigned w64 z
fits_w64 w few (pos n) fits = let wide = pow_mono few in let small = fits.sfits in record { sfits = omega (arith, wide, small) }
fits_w64 w few (negsuc n) fits = let wide = pow_mono few in let small = fits.sfits in record { sfits = omega (arith, wide, small) }

IsWord-minus : (n : ℕ) → n < 2 ^ 64 → IsWord (45 ∷ decimal n)
IsWord-minus n small = record {
  some = omega arith;
  plain = All-cons (λ b. is_word_byte b ≡ true) 45 (decimal n) refl (IsWord-decimal 64 (lit≤ tt) n small).plain;
}

IsWord-signed_decimal : (z : ℤ) → FitsSigned w64 z → IsWord (signed_decimal z)
IsWord-signed_decimal (pos n) fits = IsWord-decimal 63 (lit≤ tt) n fits.sfits
IsWord-signed_decimal (negsuc n) fits = let small = fits.sfits in IsWord-minus (suc n) (omega (arith, small))

pub IsWord-signed : (w : Width) → hbits w ≤ 63 → AreWords (signed_spelling w)
IsWord-signed w few z fits = IsWord-signed_decimal z (fits_w64 w few z fits)

pub one_signed : (w : Width) → hbits w ≤ 63 → HasOneValue (signed_spelling w)
one_signed w few y z fits other = signed_decimal_injective y z (fits_w64 w few y fits).sfits (fits_w64 w few z other).sfits
