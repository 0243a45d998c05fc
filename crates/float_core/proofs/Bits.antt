-- Bits of NaNs and of numbers, and the texts that are read as them.
use Rattle.std.proofs.Common.{◌≡◌, ℕ, ◌*◌, ◌<◌, ◌%◌, ◌^◌, ◌↔◌, ◌⊎◌, T, not, Bool, true, false, List, ◌++◌, Some, None, Option, IfNone, IsTrue, IsFalse, codes, decimal, from_bits, sym, refl, ◌∙◌, subst, inl, inr, arith, ltb}
use Rattle.std.specs.Float.{NotNan, NotNanBits, float_is_finite, float_is_infinite}
use Rattle.ryu.specs.Plain.{word_of}
use Rattle.std.proofs.lemmas.List.Sums.{AllPass-from_list_all}
use Rattle.std.specs.Float.Parse.{parse_float}
use Rattle.std.proofs.lemmas.Fmt.{decimal_injective}
use Rattle.std.proofs.lemmas.List.{append_cancel_left}
use Rattle.fast_float.proofs.OnLiterals.{fast_float_on_literals}
use lib.Ieee.{Float, Format, nan, inf, fin, top, hid, ones, is_nan}
use lib.Ieee.Bits.{nan_bits_is, nan_bits_above}
use Rattle.float_core.specs.declared.float.FloatType.{FloatType}
use Rattle.float_core.specs.declared.float.FloatType.TheVariants.{F32, F64}
use Rattle.float_core.specs.Floats.{format_of, quiet_nan, is_digit, HasNoDigit, AreBits, AreNanBits, IsNamedNan, IsNumberText, IsNanWord, IsFloatText}

pub bits_of_number : (f : Format) (bits : ℕ) → NotNan (from_bits f bits) → NotNanBits f bits
bits_of_number f bits number = subst (λ (b : Bool). T (not b)) (sym (nan_bits_is f bits)) number

pub is_nan_is : (f : Format) (bits : ℕ) → is_nan (from_bits f bits) ≡ ltb (ones f * hid f) (bits % top f)
is_nan_is f bits = sym (nan_bits_is f bits) ∙ nan_bits_above f bits

-- a NaN's bits are known by their size
pub nan_by_size : (float : FloatType) (bits : ℕ) → AreBits float bits
    → IsTrue (ltb (ones (format_of float) * hid (format_of float)) (bits % top (format_of float))) ↔ AreNanBits float bits
nan_by_size float bits within =
    (λ above. (within, subst IsTrue (sym (is_nan_is (format_of float) bits)) above), λ is. subst IsTrue (is_nan_is (format_of float) bits) is.1)

pub quiet_is_nan : (float : FloatType) → AreNanBits float (quiet_nan float)
quiet_is_nan F32 = (omega arith, is_nan_is _ _ ∙ refl)
quiet_is_nan F64 = (omega arith, is_nan_is _ _ ∙ refl)

pub IfNone_weaker : {T : Type 0} (o : Option T) (P Q : Type 0) → (P → Q) → IfNone o P → IfNone o Q
IfNone_weaker None P Q f so = f so
IfNone_weaker (Some t) P Q f so = tt

one_float : (x y : Float) → Some x ≡ Some y → x ≡ y
one_float x y is = cc is

pub nan_is : (x : Float) → not (is_nan x) ≡ false → x ≡ nan
unfolding is_nan
nan_is nan is = refl
nan_is (inf s) is = absurd cc
nan_is (fin s m e) is = absurd cc

number_no_nan : NotNan nan → ⊥
unfolding is_nan
number_no_nan is = is

-- a word for an infinity has no digit
pub no_digit : (x : Float) (text : List ℕ) → (IsFalse (float_is_finite x) → text ≡ word_of x) → IsTrue (float_is_infinite x) → HasNoDigit text
unfolding float_is_finite float_is_infinite
no_digit nan text word infinite = absurd cc
no_digit (inf true) text word infinite = rw (word refl) (AllPass-from_list_all (λ b. not (is_digit b)) (codes "-inf") refl)
no_digit (inf false) text word infinite = rw (word refl) (AllPass-from_list_all (λ b. not (is_digit b)) (codes "inf") refl)
no_digit (fin s m e) text word infinite = absurd cc

-- a decimal that is read as an infinity is the text of none
pub too_large : (float : FloatType) (text : List ℕ) (x : Float) → parse_float (format_of float) text ≡ Some x → NotNan x → IsTrue (float_is_infinite x)
    → ¬ (HasNoDigit text) → (bits : ℕ) → ¬ (IsNumberText float text bits) × ¬ (IsNanWord float text bits)
too_large float text x read number infinite has_digit bits = (
  λ is. has_digit (is.word (subst (λ (y : Float). IsTrue (float_is_infinite y)) (one_float x _ (sym read ∙ is.nearest)) infinite)),
  λ is. number_no_nan (subst NotNan (one_float x nan (sym read ∙ is.0)) number),
)

-- the same by the bits that it was read as
pub too_large_by_bits : (float : FloatType) (text : List ℕ) (x : Float) (n : ℕ) → parse_float (format_of float) text ≡ Some x
    → ((x ≡ nan) × (n ≡ quiet_nan float)) ⊎ (NotNan x × (from_bits (format_of float) n ≡ x) × (n < 2 * top (format_of float)))
    → ¬ (AreNanBits float n) → IsTrue (float_is_infinite (from_bits (format_of float) n)) → ¬ (HasNoDigit text)
    → (bits : ℕ) → ¬ (IsNumberText float text bits) × ¬ (IsNanWord float text bits)
too_large_by_bits float text x n read (inl quiet) none infinite has_digit = absurd (none (subst (AreNanBits float) (sym quiet.1) (quiet_is_nan float)))
too_large_by_bits float text x n read (inr number) none infinite has_digit =
    too_large float text x read number.0 (subst (λ (y : Float). IsTrue (float_is_infinite y)) number.1 infinite) has_digit

-- a text that is read as no float is none of a number
pub unread : (float : FloatType) (text : List ℕ) → parse_float (format_of float) text ≡ None → (bits : ℕ) → ¬ (IsNumberText float text bits) × ¬ (IsNanWord float text bits)
unread float text none bits = (
  λ is. let same : None ≡ Some (from_bits (format_of float) bits) = sym none ∙ is.nearest in absurd cc,
  λ is. let same : None ≡ Some nan = sym none ∙ is.0 in absurd cc,
)

pub within_64 : (float : FloatType) (bits : ℕ) → AreBits float bits → bits < 2 ^ 64
within_64 F32 bits within = omega (arith, within)
within_64 F64 bits within = within

-- other bits have another name
pub no_other_nan : (float : FloatType) (text rest : List ℕ) (n : ℕ) → text ≡ codes "NaN:" ++ rest → n < 2 ^ 64 → decimal n ≡ rest → ¬ (AreNanBits float n) → (bits : ℕ) → ¬ (IsNamedNan float text bits)
no_other_nan float text rest n parts small is none bits named =
    let same = decimal_injective n bits small (within_64 float bits named.1.0) (is ∙ append_cancel_left (codes "NaN:") _ _ (sym parts ∙ named.0)) in
    none (subst (AreNanBits float) (sym same) named.1)

-- a text that neither reader takes is none
pub neither : (float : FloatType) (text : List ℕ) (bits : ℕ) → ¬ (IsNumberText float text bits) × ¬ (IsNanWord float text bits) → ¬ (IsNamedNan float text bits) → ¬ (IsFloatText float text bits)
neither float text bits none unnamed (inl is) = none.0 is
neither float text bits none unnamed (inr (inl is)) = none.1 is
neither float text bits none unnamed (inr (inr is)) = unnamed is

pub nan_word : (float : FloatType) → IsNanWord float (codes "NaN") (quiet_nan float)
unfolding fast_float_on_literals
nan_word F32 = (refl, refl)
nan_word F64 = (refl, refl)

NotNan-from : (x : Float) → not (is_nan x) ≡ true → NotNan x
NotNan-from x is = subst T (sym is) tt

-- bits that no test finds to be those of a NaN are of a number
pub number_from : (float : FloatType) (bits : ℕ) → AreBits float bits → ¬ (AreNanBits float bits) → NotNan (from_bits (format_of float) bits)
number_from float bits within none = go (is_nan (from_bits (format_of float) bits)) refl
  where
    go : (b : Bool) → b ≡ is_nan (from_bits (format_of float) bits) → T (not (is_nan (from_bits (format_of float) bits)))
    go true is = absurd (none (within, sym is))
    go false is = subst (λ (b : Bool). T (not b)) is tt
