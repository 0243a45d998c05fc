-- The text of records as the hex of their bytes.
use Rattle.std.specs.Prelude.{◌≡◌, ◌<◌, ℕ, ◌/◌, ◌%◌, List, [], ◌∷◌, length, Some, Result, Ok, Bool, true, ◌&&◌, slice_index}
use Rattle.std.specs.List.{AllPass}
use Rattle.std.proofs.Common.{zero, suc, refl, sym, ap, ◌∙◌, arith}
use Rattle.std.proofs.lemmas.Bool.{and_parts}
use Rattle.std.proofs.lemmas.List.Elements.{All-cons, All-head, All-nil, All-tail}
use Rattle.hex.specs.Hex.{decode_of, encode_lower, encode_with, lower_digits}
use Rattle.hex.specs.declared.error.FromHexError.{FromHexError}
use Rattle.hex.proofs.HexLemmas.{decode_of-encode_lower, length-encode_with}
use Rattle.record_core.specs.Bytes.{Encoding, IsBytes}
use Rattle.text_core.specs.Text.{Spelling, AreWords, HasOneValue, is_word_byte}

-- the bytes of a record are read as it
pub record IsReadAgain {R : Type 0} (form : Encoding R) (r : R) : Type 0 where
  pub bytes : IsBytes (form.bytes_of r)
  pub again : form.value_of (form.bytes_of r) ≡ Some r

-- two digits of each byte, in lower case and in the order of the file
abbrev pub hex_spelling : {R : Type 0} → Encoding R → Spelling R
hex_spelling form = record { is_value = IsReadAgain form; text_of = λ r. encode_lower (form.bytes_of r) }

-- ---- its laws

abbrev all_plain : List ℕ → Bool
all_plain [] = true
all_plain (b ∷ bytes) = is_word_byte b && all_plain bytes

some_inside : {X : Type 0} (x y : X) → Some x ≡ Some y → x ≡ y
some_inside x y is = cc

abbrev bytes_read : List ℕ → Result (List ℕ) FromHexError
bytes_read bytes = Ok bytes

ok_inside : (bytes other : List ℕ) → bytes_read bytes ≡ bytes_read other → bytes ≡ other
ok_inside bytes other is = cc

-- what is read past the end of a table is a word byte too
plain_entry : (table : List ℕ) (k : ℕ) → AllPass is_word_byte table → is_word_byte (slice_index table k) ≡ true
plain_entry [] k plain = refl
plain_entry (b ∷ table) zero plain = All-head (λ c. is_word_byte c ≡ true) b table plain
plain_entry (b ∷ table) (suc k) plain = plain_entry table k (All-tail (λ c. is_word_byte c ≡ true) b table plain)

plain_encoded : (table bytes : List ℕ) → AllPass is_word_byte table → AllPass is_word_byte (encode_with table bytes)
unfolding encode_with
plain_encoded table [] plain = All-nil (λ c. is_word_byte c ≡ true)
plain_encoded table (b ∷ bytes) plain =
    All-cons (λ c. is_word_byte c ≡ true) (slice_index table (b / 16)) (slice_index table (b % 16) ∷ encode_with table bytes) (plain_entry table (b / 16) plain)
    (All-cons (λ c. is_word_byte c ≡ true) (slice_index table (b % 16)) (encode_with table bytes) (plain_entry table (b % 16) plain) (plain_encoded table bytes plain))

-- each entry of a table of word bytes is one
plain_table : (table : List ℕ) → all_plain table ≡ true → AllPass is_word_byte table
plain_table [] all = All-nil (λ c. is_word_byte c ≡ true)
plain_table (b ∷ table) all =
    let parts = and_parts (is_word_byte b) (all_plain table) all in
    All-cons (λ c. is_word_byte c ≡ true) b table parts.0 (plain_table table parts.1)

pub IsWord-hex : {R : Type 0} (form : Encoding R) → ((r : R) → 0 < length (form.bytes_of r)) → AreWords (hex_spelling form)
IsWord-hex form some r so = record {
  some = let len = length-encode_with lower_digits (form.bytes_of r) in let bytes = some r in omega (arith, len, bytes);
  plain = plain_encoded lower_digits (form.bytes_of r) (plain_table lower_digits refl);
}

-- bytes that have the same hex are the same
same_hex : (bytes other : List ℕ) → IsBytes bytes → IsBytes other → encode_lower bytes ≡ encode_lower other → bytes ≡ other
same_hex bytes other fits fit same = ok_inside bytes other (sym (decode_of-encode_lower bytes fits) ∙ ap decode_of same ∙ decode_of-encode_lower other fit)

pub one_hex : {R : Type 0} (form : Encoding R) → HasOneValue (hex_spelling form)
one_hex form r s so other same =
    let bytes = same_hex (form.bytes_of r) (form.bytes_of s) so.bytes other.bytes same in
    some_inside r s (sym so.again ∙ ap form.value_of bytes ∙ other.again)
