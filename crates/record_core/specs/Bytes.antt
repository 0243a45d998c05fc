-- Values as bytes: how numbers, flags, and two values behind one another stand in them.
use Rattle.std.specs.Prelude.{◌≡◌, ℕ, ℤ, ◌<◌, ◌+◌, ◌==◌, if◌then◌else◌, List, [], ◌∷◌, ◌++◌, Option, Some, None, Bool, true, false, length, take, drop, slice_index, refl}
use Rattle.std.specs.Int.{Width, w64, byte_len, to_le_bytes, from_le_bytes, cast_signed, cast_unsigned, from_bool}
use Rattle.record_core.specs.declared.key_value.Pair.{Pair}
use Rattle.record_core.specs.declared.key_flag.Flagged.{Flagged}

abbrev pub IsBytes : List ℕ → Type 0
IsBytes bytes = (i : ℕ) → slice_index bytes i < 256

-- the bytes of a value, and the value of as many bytes, if they are one
pub record Encoding (X : Type 0) : Type 0 where
  pub width : ℕ
  pub bytes_of : X → List ℕ
  pub value_of : List ℕ → Option X

-- where bytes are read as a value, they are that value's bytes
abbrev pub WritesBack : {X : Type 0} → Encoding X → Type 0
WritesBack {X = X} form = (bytes : List ℕ) (x : X) → IsBytes bytes → length bytes ≡ form.width → form.value_of bytes ≡ Some x → form.bytes_of x ≡ bytes

-- ---- numbers and flags

-- the lowest byte first
abbrev pub unsigned : Width → Encoding ℕ
unsigned w = record { width = byte_len w; bytes_of = to_le_bytes w; value_of = λ bytes. Some (from_le_bytes w bytes) }

-- the same in two's complement
abbrev pub signed : Width → Encoding ℤ
signed w = record { width = byte_len w; bytes_of = λ z. to_le_bytes w (cast_unsigned w z); value_of = λ bytes. Some (cast_signed w (from_le_bytes w bytes)) }

-- 0 or 1; no other byte is a flag
abbrev pub flag_of : ℕ → Option Bool
flag_of byte = if byte == 0 then Some false else if byte == 1 then Some true else None

abbrev pub boolean : Encoding Bool
boolean = record { width = 1; bytes_of = λ b. from_bool b ∷ []; value_of = λ bytes. flag_of (slice_index bytes 0) }

-- ---- two values behind one another

-- a C is made of an A and a B, and of nothing else
pub record Parts (A B C : Type 0) : Type 0 where
  pub make : A → B → C
  pub first : C → A
  pub second : C → B
  pub first_is : (a : A) (b : B) → first (make a b) ≡ a
  pub second_is : (a : A) (b : B) → second (make a b) ≡ b
  pub nothing_else : (c : C) → make (first c) (second c) ≡ c

abbrev pub both : {A B C : Type 0} → (A → B → C) → Option A → Option B → Option C
both make None b = None
both make (Some a) None = None
both make (Some a) (Some b) = Some (make a b)

-- the bytes of the first, then those of the second
abbrev pub of_parts : {A B C : Type 0} → Parts A B C → Encoding A → Encoding B → Encoding C
of_parts parts a b = record {
  width = a.width + b.width;
  bytes_of = λ c. a.bytes_of (parts.first c) ++ b.bytes_of (parts.second c);
  value_of = λ bytes. both parts.make (a.value_of (take a.width bytes)) (b.value_of (drop a.width bytes));
}

abbrev pub pair_parts : Parts ℕ ℤ Pair
pair_parts = record { make = λ k v. record { key = k; value = v }; first = λ p. p.key; second = λ p. p.value; first_is = λ k v. refl; second_is = λ k v. refl; nothing_else = λ p. refl }

abbrev pub pair : Encoding Pair
pair = of_parts pair_parts (unsigned w64) (signed w64)

abbrev pub flagged_parts : Parts ℕ Bool Flagged
flagged_parts = record { make = λ k b. record { key = k; flag = b }; first = λ f. f.key; second = λ f. f.flag; first_is = λ k b. refl; second_is = λ k b. refl; nothing_else = λ f. refl }

abbrev pub flagged : Encoding Flagged
flagged = of_parts flagged_parts (unsigned w64) boolean
