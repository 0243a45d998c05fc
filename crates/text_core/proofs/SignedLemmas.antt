-- A text is a signed number's where it is a number's, or a minus and the number's that is so far below 0.
use Rattle.std.proofs.Common.{◌≡◌, ◌≢◌, ℕ, ℤ, pos, negsuc, ◌<◌, ◌≤◌, ◌^◌, List, ◌∷◌, suc, slice_index, Option, Some, None, Result, Ok, Err, sym, ap, ◌∙◌, subst, arith, lit≤}
use Rattle.std.specs.Prelude.{decimal, IfNone, FitsSigned}
use mir.Val.{hbits}
use Rattle.std.specs.Int.{Width, w64}
use Rattle.std.specs.Option.{SomeIff}
use Rattle.std.specs.Result.{OkIff, result_ok}
use Rattle.std.specs.Fmt.{signed_decimal}
use Rattle.std.proofs.lemmas.Fmt.{decimal_nonempty, decimal_is_IsNumeral}
use Rattle.std.proofs.lemmas.Str.Parse.{digit_at}
use Rattle.text_core.specs.SignedNumbers.{fits_w64, one_signed}
use Rattle.text_core.proofs.NumberLemmas.{one_text}

no_minus_in_front : (n : ℕ) → n < 2 ^ 64 → slice_index (decimal n) 0 ≡ 45 → ⊥
no_minus_in_front n small is =
    let range = digit_at (decimal n) 0 (decimal_is_IsNumeral n small).0.1 (decimal_nonempty n small) in
    let low = range.0 in absurd (omega (arith, is, low))

rest_is : (x y : ℕ) (xs ys : List ℕ) → x ∷ xs ≡ y ∷ ys → xs ≡ ys
rest_is x y xs ys is = cc

-- ---- no number

-- behind a minus stands no number that is so far below 0
pub no_signed_minus : (digits : List ℕ) → ((n : ℕ) → 0 < n → n ≤ 2 ^ 63 → decimal n ≢ digits) → (z : ℤ) → FitsSigned w64 z → signed_decimal z ≢ 45 ∷ digits
no_signed_minus digits none (pos n) fits is =
    let small = fits.sfits in no_minus_in_front n (omega (arith, small)) (ap (λ (t : List ℕ). slice_index t 0) is)
no_signed_minus digits none (negsuc n) fits is =
    let small = fits.sfits in none (suc n) (omega arith) (omega (arith, small)) (rest_is 45 45 (decimal (suc n)) digits is)

-- with no minus in front there stands no number of at least 0
pub no_signed_plain : (text : List ℕ) → slice_index text 0 ≢ 45 → ((n : ℕ) → n < 2 ^ 63 → decimal n ≢ text) → (z : ℤ) → FitsSigned w64 z → signed_decimal z ≢ text
no_signed_plain text no_minus none (pos n) fits is = none n fits.sfits is
no_signed_plain text no_minus none (negsuc n) fits is = no_minus (sym (ap (λ (t : List ℕ). slice_index t 0) is))

-- where no number is so far below 0
pub no_signed_below : (text digits : List ℕ) (n : ℕ) (r : Option ℤ) (v : ℤ) → text ≡ 45 ∷ digits → n < 2 ^ 64 → decimal n ≡ digits
    → SomeIff r ((0 < n) × (n ≤ 2 ^ 63)) v → IfNone r ((z : ℤ) → FitsSigned w64 z → signed_decimal z ≢ text)
no_signed_below text digits n (Some y) v minus small is so = tt
no_signed_below text digits n None v minus small is so = λ z fits written.
    no_signed_minus digits (λ m some less same. let one = one_text digits m n (omega (arith, less)) small same is in so (rw (← one) (some, less))) z fits (written ∙ minus)

-- where the number doesn't fit
pub no_signed_above : {E : Type 0} (text : List ℕ) (n : ℕ) (r : Result ℤ E) → slice_index text 0 ≢ 45 → n < 2 ^ 64 → decimal n ≡ text
    → OkIff r (FitsSigned w64 (pos n)) (pos n) → IfNone (result_ok r) ((z : ℤ) → FitsSigned w64 z → signed_decimal z ≢ text)
no_signed_above text n (Ok y) no_minus small is so = tt
no_signed_above text n (Err e) no_minus small is so = λ z fits written.
    no_signed_plain text no_minus (λ m less same. let one = one_text text m n (omega (arith, less)) small same is in so (record { sfits = omega (arith, less, one) })) z fits written

-- ---- a number of fewer bits

pub no_narrow_signed : {E : Type 0} (w : Width) → hbits w ≤ 63 → (text : List ℕ) (n : ℤ) (r : Result ℤ E) → FitsSigned w64 n → signed_decimal n ≡ text
    → OkIff r (FitsSigned w n) n → IfNone (result_ok r) ((z : ℤ) → FitsSigned w z → signed_decimal z ≢ text)
no_narrow_signed w few text n (Ok y) fits is so = tt
no_narrow_signed w few text n (Err e) fits is so = λ z narrow same.
    let one : z ≡ n = one_signed w64 (lit≤ tt) z n (fits_w64 w few z narrow) fits (same ∙ sym is) in so (subst (FitsSigned w) one narrow)
