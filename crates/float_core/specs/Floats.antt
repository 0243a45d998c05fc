-- The texts of floats. A float is known by its bits: the number that has them.
use Rattle.std.specs.Prelude.{◌≡◌, ℕ, ◌*◌, ◌<◌, List, ◌++◌, ◌⊎◌, Bool, Some, codes, decimal, not, ◌&&◌, IsTrue, IsFalse, is_nan, from_bits, nat_le}
use Rattle.std.specs.List.{AllPass}
use Rattle.std.specs.Float.{float_is_infinite}
use Rattle.std.specs.Float.Ieee.{Format, binary32, binary64, nan, top}
use Rattle.std.specs.Float.Parse.{parse_float}
use Rattle.float_core.specs.declared.float.FloatType.{FloatType}
use Rattle.float_core.specs.declared.float.FloatType.TheVariants.{F32, F64}

abbrev pub format_of : FloatType → Format
format_of F32 = binary32
format_of F64 = binary64

-- the bits of the NaN that has no payload and no sign
abbrev pub quiet_nan : FloatType → ℕ
quiet_nan F32 = 0x7fc0_0000
quiet_nan F64 = 0x7ff8_0000_0000_0000

abbrev pub is_digit : ℕ → Bool
is_digit b = nat_le 48 b && nat_le b 57

abbrev pub HasNoDigit : List ℕ → Type 0
HasNoDigit text = AllPass (λ b. not (is_digit b)) text

-- a float of the type has these bits
abbrev pub AreBits : FloatType → ℕ → Type 0
AreBits float bits = bits < 2 * top (format_of float)

-- a NaN has these bits
abbrev pub AreNanBits : FloatType → ℕ → Type 0
AreNanBits float bits = AreBits float bits × IsTrue (is_nan (from_bits (format_of float) bits))

-- the text is a decimal to which no float is nearer, or a word for an infinity: no decimal is one
pub record IsNumberText (float : FloatType) (text : List ℕ) (bits : ℕ) : Type 0 where
  pub in_range : AreBits float bits
  pub number : IsFalse (is_nan (from_bits (format_of float) bits))
  pub nearest : parse_float (format_of float) text ≡ Some (from_bits (format_of float) bits)
  pub word : IsTrue (float_is_infinite (from_bits (format_of float) bits)) → HasNoDigit text

-- a word for a NaN, of which it says no more
abbrev pub IsNanWord : FloatType → List ℕ → ℕ → Type 0
IsNanWord float text bits = (parse_float (format_of float) text ≡ Some nan) × (bits ≡ quiet_nan float)

-- a NaN by its bits
abbrev pub IsNamedNan : FloatType → List ℕ → ℕ → Type 0
IsNamedNan float text bits = (text ≡ codes "NaN:" ++ decimal bits) × AreNanBits float bits

-- the text is one of the float with these bits
abbrev pub IsFloatText : FloatType → List ℕ → ℕ → Type 0
IsFloatText float text bits = IsNumberText float text bits ⊎ (IsNanWord float text bits ⊎ IsNamedNan float text bits)
