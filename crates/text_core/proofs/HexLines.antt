-- What is no hex line.
use Rattle.std.proofs.Common.{◌≡◌, ℕ, List, [], ◌∷◌, ◌++◌, Ok, Err, true, refl, sym, ap, ◌∙◌, inl, inr}
use Rattle.std.specs.Prelude.{All, slice_index, ◌/◌, ◌%◌}
use Rattle.std.proofs.lemmas.List.{append_cancel_right}
use Rattle.std.proofs.lemmas.List.Elements.{All-head, All-tail}
use Rattle.hex.specs.Hex.{decode_of, is_hex_digit, encode_with, encode_lower, lower_digits}
use Rattle.hex.specs.declared.error.FromHexError.{FromHexError}
use Rattle.hex.proofs.HexLemmas.{decode_of-ok}
use Rattle.text_core.specs.HexLine.{IsHexLine, IsWithoutLf}

read_and_refused : (digits bytes : List ℕ) (fault : FromHexError) → decode_of digits ≡ Ok bytes → decode_of digits ≡ Err fault → ⊥
read_and_refused digits bytes fault read refused = let both : Ok bytes ≡ Err fault = sym read ∙ refused in cc both

last_of_all : (P : ℕ → Type 0) (front : List ℕ) (x : ℕ) → All P (front ++ x ∷ []) → P x
last_of_all P [] x all = All-head P x [] all
last_of_all P (y ∷ front) x all = last_of_all P front x (All-tail P y (front ++ x ∷ []) all)

lf_no_digit : (front bytes : List ℕ) → decode_of (front ++ 10 ∷ []) ≡ Ok bytes → ⊥
lf_no_digit front bytes read =
    let digits = (decode_of-ok (front ++ 10 ∷ []) bytes read).1 in
    let bad = last_of_all (λ c. is_hex_digit c ≡ true) front 10 digits in
    cc bad

pub no_hex_line : (input front : List ℕ) (fault : FromHexError) (bytes : List ℕ) → IsWithoutLf input front → decode_of front ≡ Err fault → IsHexLine input bytes → ⊥
no_hex_line input front fault bytes (inl ended) refused line = elim line.line [
  | inl is ↦ lf_no_digit front bytes (ap decode_of (sym ended ∙ is) ∙ line.spelled)
  | inr is ↦ read_and_refused front bytes fault (ap decode_of (append_cancel_right front line.digits (10 ∷ []) (sym ended ∙ is)) ∙ line.spelled) refused
]
no_hex_line input front fault bytes (inr whole) refused line = elim line.line [
  | inl is ↦ read_and_refused front bytes fault (ap decode_of (sym whole.0 ∙ is) ∙ line.spelled) refused
  | inr is ↦ whole.1 line.digits is
]

-- ---- hex piece by piece

encode_with-append : (digits xs ys : List ℕ) → encode_with digits (xs ++ ys) ≡ encode_with digits xs ++ encode_with digits ys
unfolding encode_with
encode_with-append digits [] ys = refl
encode_with-append digits (b ∷ xs) ys = ap (λ (text : List ℕ). slice_index digits (b / 16) ∷ slice_index digits (b % 16) ∷ text) (encode_with-append digits xs ys)

pub encode_lower-append : (xs ys : List ℕ) → encode_lower (xs ++ ys) ≡ encode_lower xs ++ encode_lower ys
encode_lower-append xs ys = encode_with-append lower_digits xs ys

pub encode_lower-nil : encode_lower [] ≡ []
unfolding encode_with
encode_lower-nil = refl
