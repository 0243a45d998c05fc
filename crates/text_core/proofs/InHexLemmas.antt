-- The text of a record decodes to its bytes.
use Rattle.std.specs.Prelude.{◌≡◌, ℕ, List, length, Result, Ok, Option, Some, None, MatchResult, IfNone, ◌*◌}
use Rattle.std.proofs.Common.{refl, sym, ap, ◌∙◌, subst}
use Rattle.hex.specs.Hex.{decode_of, decode_sized, encode_lower, lower_digits}
use Rattle.hex.specs.declared.error.FromHexError.{FromHexError}
use Rattle.hex.proofs.HexLemmas.{decode_of-encode_lower, decode_sized-twice, length-encode_with}
use Rattle.record_core.specs.Bytes.{Encoding}
use Rattle.text_core.specs.InHex.{IsReadAgain}

pub decode_sized-text : {R : Type 0} (form : Encoding R) (r : R) (text : List ℕ) (n : ℕ) → IsReadAgain form r → length (form.bytes_of r) ≡ n → encode_lower (form.bytes_of r) ≡ text
    → decode_sized text n ≡ Ok (form.bytes_of r)
decode_sized-text form r text n so len is =
    let twice = length-encode_with lower_digits (form.bytes_of r) in
    let long : length text ≡ 2 * n = ap length (sym is) ∙ twice ∙ ap (λ k. 2 * k) len in
    decode_sized-twice text n long ∙ ap decode_of (sym is) ∙ decode_of-encode_lower (form.bytes_of r) so.bytes

-- so what decoding says of what it read holds of the record's bytes
pub decoded : {R : Type 0} (form : Encoding R) (r : R) (text : List ℕ) (n : ℕ) (P : List ℕ → Type 0) (Q : FromHexError → Type 0) → IsReadAgain form r → length (form.bytes_of r) ≡ n
    → encode_lower (form.bytes_of r) ≡ text → MatchResult (decode_sized text n) P Q → P (form.bytes_of r)
decoded form r text n P Q so len is matched = subst (λ (d : Result (List ℕ) FromHexError). MatchResult d P Q) (decode_sized-text form r text n so len is) matched

pub IfNone_at : {T : Type 0} (o : Option T) (P : Type 0) → (o ≡ None → P) → IfNone o P
IfNone_at None P so = so refl
IfNone_at (Some t) P so = tt
