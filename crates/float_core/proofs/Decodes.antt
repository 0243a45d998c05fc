-- What is given for an output, piece by piece.
use Rattle.std.proofs.Common.{◌≡◌, ◌≢◌, ◌&&◌, ◌==◌, ℕ, suc, ◌+◌, take, ◌≤◌, ◌<◌, ◌^◌, List, [], ◌∷◌, ◌++◌, length, true, false, Some, None, decimal, refl, sym, ap, subst, ◌∙◌, inl, inr, arith, length-append}
use Rattle.std.proofs.lemmas.Fmt.{decimal_injective}
use Rattle.std.proofs.lemmas.List.{append_assoc, append-nil}
use Rattle.std.proofs.lemmas.List.Elements.{All-append}
use Rattle.std.proofs.lemmas.Bool.Decides.{nat_tests}
use Rattle.text_core.proofs.Small.{nil_from_length}
use Rattle.std.proofs.Math.Seq.{take-suc}
use Rattle.std.proofs.Math.ListN.{get_or}
use Rattle.std.proofs.lemmas.List.Sums.{AllPass-from_list_all}
use Rattle.std.proofs.lemmas.Grind.{flat_map-append}
use Rattle.float_core.specs.declared.float.FloatType.{FloatType}
use Rattle.float_core.specs.declared.decoding.Spot.{Spot}
use Rattle.float_core.specs.declared.decoding.Spot.TheVariants.{Records, Nowhere}
use Rattle.float_core.specs.Encoded.{end_bytes}
use Rattle.float_core.specs.Floats.{AreBits, is_digit}
use Rattle.float_core.specs.Decoded.{Writing, Shown, IsDecoded, IsNumberGiven, IsShownWith, AreShown, AreDigitsAt, may_be_record, spot_behind, spot_behind_digits, shown_bytes, given_bytes}
use Rattle.float_core.proofs.Bits.{within_64}

-- a number of 64 bits that no float has, or what is none, stays
pub no_bits : (float : FloatType) (digits : List ℕ) (n : ℕ) → n < 2 ^ 64 → decimal n ≡ digits → ¬ (AreBits float n) → IsNumberGiven float digits digits
no_bits float digits n small is none =
    inr (λ bits within same. none (subst (AreBits float) (decimal_injective bits n (within_64 float bits within) small (same ∙ sym is)) within), refl)

pub no_number : (float : FloatType) (digits : List ℕ) → ((n : ℕ) → n < 2 ^ 64 → decimal n ≢ digits) → IsNumberGiven float digits digits
no_number float digits none = inr (λ bits within. none bits (within_64 float bits within), refl)

shown_then : (float : FloatType) (spot mid next : Spot) (front behind : List Shown) → AreShown float spot front mid → AreShown float mid behind next → AreShown float spot (front ++ behind) next
shown_then float spot mid next [] behind first then = subst (λ (s : Spot). AreShown float s behind next) first then
shown_then float spot mid next (s ∷ front) behind first then = (first.0, first.1, first.2, shown_then float first.0 mid next front behind first.3 then)

pub decoded_none : (r : Writing) → IsDecoded r [] [] r
decoded_none r = record { shown = []; taken = append-nil r.digits; given = refl; each = refl; float = refl }

decoded_one : (r new : Writing) (bytes own : List ℕ) (s : Shown) → r.digits ++ bytes ≡ s.digits ++ end_bytes s.end → own ≡ s.given ++ end_bytes s.end → AreDigitsAt r.spot s.digits
    → IsShownWith r.float r.spot s.digits s.given s.end new.spot → new.float ≡ r.float → new.digits ≡ [] → IsDecoded r bytes own new
decoded_one r new bytes own s taken is digits shown float none = record {
  shown = s ∷ [];
  taken = taken ∙ sym (append-nil _ ∙ append-nil _) ∙ ap (λ (bs : List ℕ). shown_bytes (s ∷ []) ++ bs) (sym none);
  given = is ∙ sym (append-nil _);
  each = (new.spot, digits, shown, refl);
  float = float;
}

pub one_more : (spot : Spot) (digits : List ℕ) (d : ℕ) → AreDigitsAt spot digits → is_digit d ≡ true → may_be_record spot ≡ true → AreDigitsAt spot (digits ++ d ∷ [])
one_more spot digits d before is may = (All-append (λ b. is_digit b ≡ true) digits (d ∷ []) before.0 (AllPass-from_list_all is_digit (d ∷ []) (rw is refl)), inr may)

-- digits that are too many for a number
pub decoded_part : (r new : Writing) (digit : ℕ) → AreDigitsAt r.spot (r.digits ++ digit ∷ []) → 20 ≤ length r.digits → new.float ≡ r.float → new.spot ≡ Nowhere → new.digits ≡ []
    → IsDecoded r (digit ∷ []) (r.digits ++ digit ∷ []) new
decoded_part r new digit digits many float nowhere none =
    decoded_one r new (digit ∷ []) (r.digits ++ digit ∷ []) (record { digits = r.digits ++ digit ∷ []; given = r.digits ++ digit ∷ []; end = None }) (sym (append-nil _)) (sym (append-nil _)) digits
    (rw (length-append r.digits (digit ∷ [])) (omega (arith, many)), refl, nowhere) float none

pub decoded_byte : (r new : Writing) (b : ℕ) → r.digits ≡ [] → (is_digit b && may_be_record r.spot) ≡ false → new.float ≡ r.float → new.spot ≡ spot_behind r.spot b → new.digits ≡ [] → IsDecoded r (b ∷ []) (b ∷ []) new
decoded_byte r new b empty other float spot none =
    decoded_one r new (b ∷ []) (b ∷ []) (record { digits = []; given = []; end = Some b }) (ap (λ (bs : List ℕ). bs ++ b ∷ []) empty) refl (no_digits r.spot) (other, inl (refl, refl), spot) float none
  where
    no_digits : (spot : Spot) → AreDigitsAt spot []
    no_digits spot = (λ k d lt. absurd (omega (arith, lt)), inl refl)

spot_behind_some : (spot : Spot) (digits : List ℕ) (b : ℕ) → digits ≢ [] → spot_behind_digits spot digits b ≡ spot_behind Records b
spot_behind_some spot [] b some = absurd (some refl)
spot_behind_some spot (d ∷ digits) b some = refl

pub decoded_number : (r new : Writing) (b : ℕ) (given : List ℕ) → AreDigitsAt r.spot r.digits → r.digits ≢ [] → (is_digit b && may_be_record r.spot) ≡ false → IsNumberGiven r.float r.digits given
    → new.float ≡ r.float → new.spot ≡ spot_behind Records b → new.digits ≡ [] → IsDecoded r (b ∷ []) (given ++ b ∷ []) new
decoded_number r new b given digits some other is float spot none =
    decoded_one r new (b ∷ []) (given ++ b ∷ []) (record { digits = r.digits; given = given; end = Some b }) refl refl digits
    (other, inr (some, is), spot ∙ sym (spot_behind_some r.spot r.digits b some)) float none

pub decoded_then : (old mid new : Writing) (first then own more : List ℕ) → IsDecoded old first own mid → IsDecoded mid then more new → IsDecoded old (first ++ then) (own ++ more) new
decoded_then old mid new first then own more is goes_on = record {
  shown = is.shown ++ goes_on.shown;
  taken = sym (append_assoc old.digits first then) ∙ ap (λ (bs : List ℕ). bs ++ then) is.taken ∙ append_assoc (shown_bytes is.shown) mid.digits then
      ∙ ap (λ (bs : List ℕ). shown_bytes is.shown ++ bs) goes_on.taken ∙ sym (append_assoc (shown_bytes is.shown) (shown_bytes goes_on.shown) new.digits)
      ∙ ap (λ (bs : List ℕ). bs ++ new.digits) (sym (flat_map-append (λ (s : Shown). s.digits ++ end_bytes s.end) is.shown goes_on.shown));
  given = ap (λ (bs : List ℕ). bs ++ more) is.given ∙ ap (λ (bs : List ℕ). given_bytes is.shown ++ bs) goes_on.given
      ∙ sym (flat_map-append (λ (s : Shown). s.given ++ end_bytes s.end) is.shown goes_on.shown);
  each = shown_then old.float old.spot mid.spot new.spot is.shown goes_on.shown is.each (subst (λ (f : FloatType). AreShown f mid.spot goes_on.shown new.spot) is.float goes_on.each);
  float = goes_on.float ∙ is.float;
}

pub take_more : (bytes : List ℕ) (k : ℕ) → k < length bytes → take k bytes ++ get_or bytes k 0 ∷ [] ≡ take (k + 1) bytes
take_more bytes k within = sym (take-suc bytes k 0 within) ∙ ap (λ (n : ℕ). take n bytes) (next k)
  where
    next : (k : ℕ) → suc k ≡ k + 1
    next k = omega arith

pub empty_from : (digits : List ℕ) → true ≡ (length digits == 0) → digits ≡ []
empty_from digits is = nil_from_length digits (zero_from (length digits) is)
  where
    zero_from : (n : ℕ) → true ≡ (n == 0) → n ≡ 0
    zero_from n is = grind (arith, nat_tests)
