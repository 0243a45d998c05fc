-- What is given for an input, piece by piece.
use Rattle.std.proofs.Common.{◌≡◌, ◌≢◌, ℕ, ◌+◌, ◌-◌, ◌<◌, take, drop, List, [], ◌∷◌, ◌++◌, length, true, not, cond, ◌==◌, Some, None, refl, sym, ap, subst, ◌∙◌, arith}
use Rattle.std.proofs.lemmas.List.{append_assoc, append-nil, take-append-drop, drop_more, length-drop}
use Rattle.std.proofs.Math.Seq.{take-length}
use Rattle.std.proofs.Math.ListN.{get_or}
use Rattle.std.proofs.lemmas.List.Elements.{All-append}
use Rattle.std.proofs.lemmas.Bool.Decides.{nat_tests}
use Rattle.std.proofs.lemmas.Grind.{flat_map-append}
use Rattle.float_core.specs.declared.float.FloatType.{FloatType}
use Rattle.float_core.specs.declared.encoding.FloatLines.{FloatLines}
use Rattle.float_core.specs.declared.encoding.Place.{Place}
use Rattle.float_core.specs.declared.encoding.Place.TheVariants.{Verb, Number, Record, Nowhere}
use Rattle.float_core.specs.Encoded.{Reading, Turned, IsGiven, IsWordGiven, IsPlain, IsEncoded, IsTurnedWith, AreTurned, ends_word, end_bytes, first_place, taken_bytes, given_bytes}

-- a word that is no record stays
pub given_as_is : (float : FloatType) (place : Place) (word : List ℕ) → place ≢ Record → IsGiven float place word word
given_as_is float Verb word other = refl
given_as_is float Number word other = refl
given_as_is float Record word other = absurd (other refl)
given_as_is float Nowhere word other = refl

turned_then : (float : FloatType) (lines : FloatLines) (place mid next : Place) (front behind : List Turned) → AreTurned float lines place front mid → AreTurned float lines mid behind next → AreTurned float lines place (front ++ behind) next
turned_then float lines place mid next [] behind first then = subst (λ (p : Place). AreTurned float lines p behind next) first then
turned_then float lines place mid next (t ∷ front) behind first then = (first.0, first.1, first.2, turned_then float lines first.0 mid next front behind first.3 then)

pub encoded_none : (r : Reading) → IsEncoded r [] [] r
encoded_none r = record { turned = []; taken = append-nil r.held; given = refl; each = refl; float = refl; lines = refl }

-- bytes of a word that are held back
pub encoded_held : (r : Reading) (bytes : List ℕ) → IsEncoded r bytes [] (record { float = r.float; lines = r.lines; place = r.place; held = r.held ++ bytes })
encoded_held r bytes = record { turned = []; taken = refl; given = refl; each = refl; float = refl; lines = refl }

-- one word, or a part of too long a one
encoded_one : (r new : Reading) (bytes given : List ℕ) (t : Turned) → r.held ++ bytes ≡ t.word ++ end_bytes t.end → given ≡ t.given ++ end_bytes t.end → IsPlain t.word
    → IsTurnedWith r.float r.lines r.place t.word t.given t.end new.place → new.float ≡ r.float → new.lines ≡ r.lines → new.held ≡ [] → IsEncoded r bytes given new
encoded_one r new bytes given t taken is plain turned float lines none = record {
  turned = t ∷ [];
  taken = taken ∙ sym (append-nil _ ∙ append-nil _) ∙ ap (λ (bs : List ℕ). taken_bytes (t ∷ []) ++ bs) (sym none);
  given = is ∙ sym (append-nil _);
  each = (new.place, plain, turned, refl);
  float = float;
  lines = lines;
}

pub encoded_part : (r new : Reading) (bytes : List ℕ) → IsPlain (r.held ++ bytes) → 4096 < length (r.held ++ bytes) → new.float ≡ r.float → new.lines ≡ r.lines → new.place ≡ r.place → new.held ≡ []
    → IsEncoded r bytes (r.held ++ bytes) new
encoded_part r new bytes plain long float lines place none =
    encoded_one r new bytes (r.held ++ bytes) (record { word = r.held ++ bytes; given = r.held ++ bytes; end = None }) (sym (append-nil _)) (sym (append-nil _)) plain (long, refl, place) float lines none

pub encoded_word : (r new : Reading) (tail given : List ℕ) (b : ℕ) (place : Place) → IsPlain (r.held ++ tail) → ends_word b ≡ true → IsWordGiven r.float r.lines r.place (r.held ++ tail) given place
    → new.float ≡ r.float → new.lines ≡ r.lines → new.place ≡ cond (b == 10) (first_place r.lines) place → new.held ≡ [] → IsEncoded r (tail ++ b ∷ []) (given ++ b ∷ []) new
encoded_word r new tail given b place plain ends is float lines begins none =
    encoded_one r new (tail ++ b ∷ []) (given ++ b ∷ []) (record { word = r.held ++ tail; given = given; end = Some b }) (sym (append_assoc r.held tail (b ∷ []))) refl plain
    (ends, (place, is, begins)) float lines none

pub plain_then : (front behind : List ℕ) → IsPlain front → IsPlain behind → IsPlain (front ++ behind)
plain_then front behind one other = All-append (λ b. not (ends_word b) ≡ true) front behind one other

-- a list as it is before a place, there and behind it
pub split_at : (bytes : List ℕ) (at : ℕ) → at < length bytes → bytes ≡ (take at bytes ++ get_or bytes at 0 ∷ []) ++ take (length bytes - (at + 1)) (drop (at + 1) bytes)
split_at bytes at within =
    sym (take-append-drop at bytes) ∙ ap (λ (bs : List ℕ). take at bytes ++ bs) (drop_more bytes at 0 within) ∙ sym (append_assoc (take at bytes) (get_or bytes at 0 ∷ []) (drop (at + 1) bytes))
    ∙ ap (λ (bs : List ℕ). (take at bytes ++ get_or bytes at 0 ∷ []) ++ bs) (sym (ap (λ (n : ℕ). take n (drop (at + 1) bytes)) (sym (length-drop (at + 1) bytes)) ∙ take-length (drop (at + 1) bytes)))

-- what was taken at first, and then
pub encoded_then : (old mid new : Reading) (first then own more : List ℕ) → IsEncoded old first own mid → IsEncoded mid then more new → IsEncoded old (first ++ then) (own ++ more) new
encoded_then old mid new first then own more is goes_on = record {
  turned = is.turned ++ goes_on.turned;
  taken = sym (append_assoc old.held first then) ∙ ap (λ (bs : List ℕ). bs ++ then) is.taken ∙ append_assoc (taken_bytes is.turned) mid.held then
      ∙ ap (λ (bs : List ℕ). taken_bytes is.turned ++ bs) goes_on.taken ∙ sym (append_assoc (taken_bytes is.turned) (taken_bytes goes_on.turned) new.held)
      ∙ ap (λ (bs : List ℕ). bs ++ new.held) (sym (flat_map-append (λ (t : Turned). t.word ++ end_bytes t.end) is.turned goes_on.turned));
  given = ap (λ (bs : List ℕ). bs ++ more) is.given ∙ ap (λ (bs : List ℕ). given_bytes is.turned ++ bs) goes_on.given
      ∙ sym (flat_map-append (λ (t : Turned). t.given ++ end_bytes t.end) is.turned goes_on.turned);
  each = turned_then old.float old.lines old.place mid.place new.place is.turned goes_on.turned is.each
      (subst (λ (l : FloatLines). AreTurned old.float l mid.place goes_on.turned new.place) is.lines
      (subst (λ (f : FloatType). AreTurned f mid.lines mid.place goes_on.turned new.place) is.float goes_on.each));
  float = goes_on.float ∙ is.float;
  lines = goes_on.lines ∙ is.lines;
}

-- the same with what is appended
pub encodes_then : (old mid new : Reading) (first then out longer longest own : List ℕ) → longer ≡ out ++ own → IsEncoded old first own mid
    → (more : List ℕ) × (longest ≡ longer ++ more) × IsEncoded mid then more new → (all : List ℕ) × (longest ≡ out ++ all) × IsEncoded old (first ++ then) all new
encodes_then old mid new first then out longer longest own is encoded goes_on =
    (own ++ goes_on.0, goes_on.1 ∙ ap (λ (bs : List ℕ). bs ++ goes_on.0) is ∙ append_assoc out own goes_on.0, encoded_then old mid new first then own goes_on.0 encoded goes_on.2)

pub begins_line : (b : ℕ) (first place : Place) → b ≡ 10 → cond (b == 10) first place ≡ first
begins_line b first place is = rw is refl

pub goes_on : (b : ℕ) (first place : Place) → b ≢ 10 → cond (b == 10) first place ≡ place
goes_on b first place other = grind (arith, nat_tests)
