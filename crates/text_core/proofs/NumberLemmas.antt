-- A text is a number's where std's `parse` reads it and neither a plus nor a zero stands in front.
use Rattle.std.proofs.Common.{◌≡◌, ◌≢◌, ℕ, ◌<◌, ◌≤◌, ◌^◌, List, length, take, slice_index, Option, Some, None, Result, Ok, Err, sym, ap, ◌∙◌, subst, arith, inl, inr}
use Rattle.std.specs.Prelude.{decimal, IfSome, IfNone, IsUtf8}
use Rattle.std.specs.Option.{SomeIff}
use Rattle.std.specs.Result.{OkIff, result_ok}
use Rattle.std.specs.Str.Parse.{ParsesUnsigned, AllDigits, IsNumeral, digits_value, without_leading_plus}
use Rattle.std.proofs.lemmas.Bool.{cases_lt}
use Rattle.std.proofs.lemmas.Fmt.{decimal_nonempty, decimal_is_IsNumeral, decimal_digit, first_decimal, parse-decimal, decimal-digits_value, IsAscii-decimal, decimal_injective}
use Rattle.std.proofs.lemmas.List.{length-take-le}
use Rattle.std.proofs.lemmas.Str.Parse.{digit_at, digits_value_short, numerals_by_value, tells_digits, without_leading_plus_none}
use Rattle.std.proofs.lemmas.Str.{IsUtf8-from_ascii}
use Rattle.text_core.specs.Numbers.{BeginsAsNumber, fits_64}

zero_alone : (n : ℕ) → n < 2 ^ 64 → slice_index (decimal n) 0 ≡ 48 → length (decimal n) ≡ 1
zero_alone n small zero_first = elim (cases_lt 0 n) [
  | inl more ↦ (let front = first_decimal n more small in absurd (omega (arith, front, zero_first)))
  | inr none ↦ ap length (decimal_digit n (omega arith))
]

pub decimal_begins : (n : ℕ) → n < 2 ^ 64 → BeginsAsNumber (decimal n)
decimal_begins n small =
    let some = decimal_nonempty n small in
    let range = digit_at (decimal n) 0 (decimal_is_IsNumeral n small).0.1 some in
    record {
      some = some;
      no_plus = λ e. let low = range.0 in absurd (omega (arith, e, low));
      no_zero = zero_alone n small;
    }

pub no_number : (bs : List ℕ) → (BeginsAsNumber bs → ⊥) → (n : ℕ) → n < 2 ^ 64 → decimal n ≢ bs
no_number bs not_so n small is = not_so (subst BeginsAsNumber is (decimal_begins n small))

pub read_is_text : {E : Type 0} (bs text : List ℕ) (r : Result ℕ E) → text ≡ bs → BeginsAsNumber bs → ParsesUnsigned 64 10 text r → IfSome (result_ok r) (λ n. (n < 2 ^ 64) × (decimal n ≡ bs))
read_is_text bs text (Err e) same begins parsed = tt
read_is_text bs text (Ok n) same begins parsed =
    let plain = ap without_leading_plus same ∙ without_leading_plus_none bs begins.no_plus in
    let numeral : IsNumeral 10 bs = subst (IsNumeral 10) plain parsed.0.0 in
    let fits : digits_value 10 bs < 2 ^ 64 = subst (λ (ds : List ℕ). digits_value 10 ds < 2 ^ 64) plain parsed.0.1 in
    let value : n ≡ digits_value 10 bs = parsed.1 ∙ ap (digits_value 10) plain in
    (omega (arith, value, fits), ap decimal value ∙ decimal-digits_value (numerals_by_value (AllDigits 10) tells_digits) bs numeral.1 numeral.0 begins.no_zero fits)

not_err : {E : Type 0} (e : E) (n : ℕ) → Err e ≡ Ok n → ⊥
not_err e n is = cc is

pub refused_is_none : {E : Type 0} (bs text : List ℕ) (r : Result ℕ E) → text ≡ bs → ParsesUnsigned 64 10 text r → IfNone (result_ok r) ((n : ℕ) → n < 2 ^ 64 → decimal n ≢ bs)
refused_is_none bs text (Ok n) same parsed = tt
refused_is_none bs text (Err e) same parsed = λ n small is. not_err e n (parse-decimal 64 n text (Err e) small small (same ∙ sym is) parsed)

pub no_text : (bs : List ℕ) → (IsUtf8 bs → ⊥) → (n : ℕ) → n < 2 ^ 64 → decimal n ≢ bs
no_text bs not_so n small is = not_so (subst IsUtf8 is (IsUtf8-from_ascii (decimal n) (IsAscii-decimal n small)))

-- ---- a text that is short enough for any digits

pub short_digits_small : (bs : List ℕ) → length bs ≤ 19 → AllDigits 10 bs → digits_value 10 bs < 2 ^ 64
short_digits_small bs short digits = let below = digits_value_short (numerals_by_value (AllDigits 10) tells_digits) bs 19 digits short in omega (arith, below)

-- with one digit more it is small still
pub front_digits_small : (bs : List ℕ) (k : ℕ) → k < length bs → length bs ≤ 19 → AllDigits 10 (take k bs) → digits_value 10 (take k bs) < 10 ^ 18
front_digits_small bs k inside short digits =
    let len = length-take-le k bs (omega arith) in
    digits_value_short (numerals_by_value (AllDigits 10) tells_digits) (take k bs) 18 digits (omega (arith, len))

pub short_is_text : (bs : List ℕ) (r : Option ℕ) → length bs ≤ 19 → BeginsAsNumber bs → SomeIff r (AllDigits 10 bs) (digits_value 10 bs)
    → IfSome r (λ n. (n < 2 ^ 64) × (decimal n ≡ bs))
short_is_text bs None short begins read = tt
short_is_text bs (Some n) short begins read =
    let fits = short_digits_small bs short read.0 in
    let value : n ≡ digits_value 10 bs = read.1 in (
      omega (arith, value, fits),
      ap decimal value ∙ decimal-digits_value (numerals_by_value (AllDigits 10) tells_digits) bs read.0 begins.some begins.no_zero fits,
    )

pub short_is_none : (bs : List ℕ) (r : Option ℕ) → SomeIff r (AllDigits 10 bs) (digits_value 10 bs) → IfNone r ((n : ℕ) → n < 2 ^ 64 → decimal n ≢ bs)
short_is_none bs (Some n) read = tt
short_is_none bs None read = λ n small is. read (subst (AllDigits 10) is (decimal_is_IsNumeral n small).0.1)

-- ---- a number of fewer bits

pub one_text : (text : List ℕ) (m n : ℕ) → m < 2 ^ 64 → n < 2 ^ 64 → decimal m ≡ text → decimal n ≡ text → m ≡ n
one_text text m n small less is so = decimal_injective m n small less (is ∙ sym so)

pub no_narrow : {E : Type 0} (bits : ℕ) → bits ≤ 64 → (text : List ℕ) (n : ℕ) (r : Result ℕ E) → n < 2 ^ 64 → decimal n ≡ text
    → OkIff r (n < 2 ^ bits) n → IfNone (result_ok r) ((m : ℕ) → m < 2 ^ bits → decimal m ≢ text)
no_narrow bits few text n (Ok m) small is so = tt
no_narrow bits few text n (Err e) small is so = λ m less same. let one = one_text text m n (fits_64 bits few m less) small same is in so (omega (arith, less, one))
