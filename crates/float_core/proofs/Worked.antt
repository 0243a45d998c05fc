-- What the definitions of texts and of lines allow and rule out, on small inputs.
use Rattle.std.proofs.Common.{◌≡◌, ◌≢◌, ℕ, List, [], ◌∷◌, ◌++◌, codes, true, not, Some, refl, ap, get_or, inl, inr, arith, IsTrue, is_nan, from_bits}
use Rattle.std.specs.Float.{NotNan, float_is_infinite}
use Rattle.std.specs.Float.Parse.{parse_float}
use Rattle.std.specs.List.{list_all}
use Rattle.std.proofs.lemmas.List.Sums.{AllPass-from_list_all, list_all-from_AllPass}
use Rattle.std.specs.Fmt.{digits}
use lib.Ieee.{binary32, binary64, of_bits}
use Rattle.fast_float.proofs.OnLiterals.{fast_float_on_literals}
use Rattle.float_core.specs.declared.float.FloatType.TheVariants.{F32, F64}
use Rattle.float_core.specs.declared.encoding.FloatLines.TheVariants.{Steps}
use Rattle.float_core.specs.declared.encoding.Place.TheVariants.{Verb, Number, Record}
use Rattle.float_core.specs.Floats.{IsFloatText, IsNamedNan, HasNoDigit, is_digit}
use Rattle.float_core.specs.declared.decoding.Spot.{Spot}
use Rattle.float_core.specs.declared.decoding.Spot.TheVariants.{Begin, Change, Event, Records}
use Rattle.float_core.specs.Encoded.{IsEncoded, IsPlain, Reading, Turned, ends_word}
use Rattle.float_core.specs.Decoded.{IsDecoded, Writing, Shown, AreDigitsAt}
use Rattle.float_core.proofs.Bits.{is_nan_is, neither, too_large}

-- ---- texts

half_is_read : parse_float binary64 (codes "0.5") ≡ Some (from_bits binary64 0x3fe0_0000_0000_0000)
unfolding fast_float_on_literals of_bits
half_is_read = refl

half_is_finite : IsTrue (float_is_infinite (from_bits binary64 0x3fe0_0000_0000_0000)) → ⊥
unfolding float_is_infinite of_bits
half_is_finite infinite = absurd cc

-- 0.5 has the bits of an exponent of 1022, and no others
half : IsFloatText F64 (codes "0.5") 0x3fe0_0000_0000_0000
half = inl (record { in_range = omega arith; number = is_nan_is binary64 0x3fe0_0000_0000_0000; nearest = half_is_read; word = λ infinite. absurd (half_is_finite infinite) })

large_is_read : parse_float binary32 (codes "1e39") ≡ Some (from_bits binary32 0x7f80_0000)
unfolding fast_float_on_literals of_bits
large_is_read = refl

infinity_is : IsTrue (float_is_infinite (from_bits binary32 0x7f80_0000))
unfolding float_is_infinite of_bits
infinity_is = refl

infinity_is_number : NotNan (from_bits binary32 0x7f80_0000)
unfolding lib.Ieee.is_nan of_bits
infinity_is_number = tt

-- a decimal above the greatest float is the text of none
too_large_for_f32 : (bits : ℕ) → ¬ (IsFloatText F32 (codes "1e39") bits)
too_large_for_f32 bits = neither F32 (codes "1e39") bits (too_large F32 (codes "1e39") _ large_is_read infinity_is_number infinity_is has_digit bits) unnamed
  where
    has_digit : HasNoDigit (codes "1e39") → ⊥
    has_digit none = let all = list_all-from_AllPass (λ b. not (is_digit b)) (codes "1e39") none in absurd cc

    unnamed : ¬ (IsNamedNan F32 (codes "1e39") bits)
    unnamed is = omega (arith, ap (λ (text : List ℕ). get_or text 0 0) is.0)

-- ---- lines

abbrev first_of_steps : Reading
first_of_steps = record { float = F64; lines = Steps; place = Verb; held = [] }

-- of a step the number stays, and its record is turned
step_is_turned : IsEncoded first_of_steps (codes "put 0 0.5 ") (codes "put 0 4602678819172646912 ") (record { float = F64; lines = Steps; place = Record; held = [] })
unfolding digits
step_is_turned = record {
  turned = word (codes "put") ∷ word (codes "0") ∷ (record { word = codes "0.5"; given = codes "4602678819172646912"; end = Some 32 }) ∷ [];
  taken = refl;
  given = refl;
  each = (
    Number,
    plain (codes "put") refl,
    (refl, (Number, inr (some _ _, refl, inr (no_share, refl)), refl)),
    (
      Record,
      plain (codes "0") refl,
      (refl, (Record, inr (some _ _, refl, refl), refl)),
      (Record, plain (codes "0.5") refl, (refl, (Record, inr (some _ _, inl (0x3fe0_0000_0000_0000, (omega arith, half), refl), inr (no_bar, refl)), refl)), refl),
    ),
  );
  float = refl;
  lines = refl;
}
  where
    word : List ℕ → Turned
    word text = record { word = text; given = text; end = Some 32 }

    plain : (text : List ℕ) → list_all (λ b. not (ends_word b)) text ≡ true → IsPlain text
    plain text is = AllPass-from_list_all (λ b. not (ends_word b)) text is

    some : (b : ℕ) (text : List ℕ) → b ∷ text ≢ []
    some b text is = cc is

    no_share : codes "put" ≢ codes "share"
    no_share is = omega (arith, ap (λ (text : List ℕ). get_or text 0 0) is)

    no_bar : codes "0.5" ≢ codes "|"
    no_bar is = omega (arith, ap (λ (text : List ℕ). get_or text 0 0) is)

abbrev start_of_lines : Writing
start_of_lines = record { float = F64; spot = Begin; digits = [] }

-- of an event's line the position stays, and its record is turned
event_is_turned : IsDecoded start_of_lines (codes "= 7 4602678819172646912" ++ 10 ∷ []) (codes "= 7 0.5" ++ 10 ∷ []) start_of_lines
unfolding digits
event_is_turned = record {
  shown = byte 61 ∷ byte 32 ∷ byte 55 ∷ byte 32 ∷ (record { digits = codes "4602678819172646912"; given = codes "0.5"; end = Some 10 }) ∷ [];
  taken = refl;
  given = refl;
  each = (
    Change,
    none Begin,
    (refl, inl (refl, refl), refl),
    (
      Event,
      none Change,
      (refl, inl (refl, refl), refl),
      (
        Event,
        none Event,
        (refl, inl (refl, refl), refl),
        (
          Records,
          none Event,
          (refl, inl (refl, refl), refl),
          (Begin, (AllPass-from_list_all is_digit (codes "4602678819172646912") refl, inr refl), (refl, inr (some, inl (0x3fe0_0000_0000_0000, omega arith, refl, half)), refl), refl),
        ),
      ),
    ),
  );
  float = refl;
}
  where
    byte : ℕ → Shown
    byte b = record { digits = []; given = []; end = Some b }

    none : (spot : Spot) → AreDigitsAt spot []
    none spot = (AllPass-from_list_all is_digit [] refl, inl refl)

    some : codes "4602678819172646912" ≢ []
    some is = omega (arith, ap (λ (text : List ℕ). get_or text 0 0) is)
