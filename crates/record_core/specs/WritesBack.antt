-- Bytes that are read as a value are that value's bytes, and values of equal parts are one.
use Rattle.std.proofs.Common.{◌≡◌, ℕ, zero, suc, ◌+◌, ◌*◌, ◌%◌, ◌^◌, ◌≤◌, ◌<◌, List, [], ◌∷◌, length, take, drop, Option, Some, None, Bool, true, false, ◌&&◌, refl, sym, ap, ◌∙◌, arith}
use Rattle.std.specs.Prelude.{◌==◌, if◌then◌else◌, slice_index}
use Rattle.std.specs.Int.{Width, w8, w16, w32, w64, w128, byte_len, byte_worth, sum_through, to_le_bytes, from_le_bytes, cast_signed, cast_unsigned, from_bool}
use mir.Val.{bits}
use Rattle.std.proofs.Math.Nat.{pow-succ'}
use Rattle.std.proofs.lemmas.Bool.{and_parts, eqb-true}
use Rattle.std.proofs.lemmas.Int.{of_z-to_z}
use Rattle.std.proofs.lemmas.List.{take-append-drop, length-take, length-drop, get_or-drop}
use Rattle.std.proofs.lemmas.Nat.{mul-le}
use Rattle.record_core.specs.Bytes.{IsBytes, Encoding, WritesBack, unsigned, signed, flag_of, boolean, Parts, both, of_parts}

inside_Some : {X : Type 0} (x y : X) → Some x ≡ Some y → x ≡ y
inside_Some x y e = cc

-- ---- numbers

-- what std proves of the numbers of one width
abbrev pub AreSpelledOnce : Width → Type 0
AreSpelledOnce w = (bytes : List ℕ) (n : ℕ) → length bytes ≡ byte_len w → IsBytes bytes → n ≡ from_le_bytes w bytes → to_le_bytes w n ≡ bytes

pub unsigned_back : (w : Width) → AreSpelledOnce w → WritesBack (unsigned w)
unsigned_back w once bytes n fits len is = once bytes n len fits (sym (inside_Some (from_le_bytes w bytes) n is))

-- std proves it of the numbers of 2, 4 and 8 bytes
pub le_bytes_1 : AreSpelledOnce w8
le_bytes_1 [] n len fits is = absurd (omega arith)
le_bytes_1 (byte ∷ []) n len fits is =
    let small = fits 0 in
    let low : n % 256 ≡ byte = omega (arith, small, is) in
    ap (λ b. b ∷ []) low
le_bytes_1 (byte ∷ other ∷ rest) n len fits is = absurd (omega arith)

spelled-lt : (bytes : List ℕ) (k : ℕ) → IsBytes bytes → sum_through (λ i. byte_worth i (slice_index bytes i)) k < 256 ^ suc k
spelled-lt bytes zero fits = fits 0
spelled-lt bytes (suc k) fits =
    let below = spelled-lt bytes k fits in
    let byte = fits (suc k) in
    let top : slice_index bytes (suc k) * 256 ^ suc k ≤ 255 * 256 ^ suc k = mul-le (slice_index bytes (suc k)) (256 ^ suc k) 255 (256 ^ suc k) (omega arith) (omega arith) in
    rw (pow-succ' 256 (suc k)) (omega arith)

pub from_le_bytes-lt : (w : Width) (bytes : List ℕ) → IsBytes bytes → from_le_bytes w bytes < 2 ^ bits w
from_le_bytes-lt w8 bytes fits = spelled-lt bytes 0 fits
from_le_bytes-lt w16 bytes fits = spelled-lt bytes 1 fits
from_le_bytes-lt w32 bytes fits = spelled-lt bytes 3 fits
from_le_bytes-lt w64 bytes fits = spelled-lt bytes 7 fits
from_le_bytes-lt w128 bytes fits = spelled-lt bytes 15 fits

pub signed_back : (w : Width) → AreSpelledOnce w → WritesBack (signed w)
signed_back w once bytes z fits len is =
    let value : cast_signed w (from_le_bytes w bytes) ≡ z = inside_Some (cast_signed w (from_le_bytes w bytes)) z is in
    once bytes (cast_unsigned w z) len fits (ap (cast_unsigned w) (sym value) ∙ of_z-to_z w (from_le_bytes w bytes) (from_le_bytes-lt w bytes fits))

-- ---- a flag

flag_by_tests : (is_0 is_1 : Bool) (byte : ℕ) (b : Bool) → (is_0 ≡ true → byte ≡ 0) → (is_1 ≡ true → byte ≡ 1)
    → (if is_0 then Some false else if is_1 then Some true else None) ≡ Some b → from_bool b ∷ [] ≡ byte ∷ []
flag_by_tests true is_1 byte false zeroth first is = rw (zeroth refl) refl
flag_by_tests true is_1 byte true zeroth first is = absurd cc
flag_by_tests false true byte true zeroth first is = rw (first refl) refl
flag_by_tests false true byte false zeroth first is = absurd cc
flag_by_tests false false byte b zeroth first is = absurd cc

flag_of_back : (byte : ℕ) (b : Bool) → flag_of byte ≡ Some b → boolean.bytes_of b ≡ byte ∷ []
flag_of_back byte b is = flag_by_tests (byte == 0) (byte == 1) byte b (eqb-true byte 0) (eqb-true byte 1) is

pub boolean_back : WritesBack boolean
boolean_back [] b fits len is = absurd (omega arith)
boolean_back (byte ∷ []) b fits len is = flag_of_back byte b is
boolean_back (byte ∷ other ∷ rest) b fits len is = absurd (omega arith)

-- ---- two values behind one another

IsBytes-take : (n : ℕ) (bytes : List ℕ) → IsBytes bytes → IsBytes (take n bytes)
IsBytes-take zero bytes fits i = omega arith
IsBytes-take (suc n) [] fits i = omega arith
IsBytes-take (suc n) (b ∷ bytes) fits zero = fits 0
IsBytes-take (suc n) (b ∷ bytes) fits (suc i) = IsBytes-take n bytes (λ k. fits (suc k)) i

IsBytes-drop : (n : ℕ) (bytes : List ℕ) → IsBytes bytes → IsBytes (drop n bytes)
IsBytes-drop n bytes fits i = let moved = get_or-drop n bytes i 0 in let here = fits (n + i) in omega arith

-- both parts are there
record AreBoth {A B C : Type 0} (make : A → B → C) (a : Option A) (b : Option B) (c : C) : Type 0 where
  left : A
  right : B
  is_left : a ≡ Some left
  is_right : b ≡ Some right
  is : c ≡ make left right

AreBoth_from : {A B C : Type 0} (make : A → B → C) (a : Option A) (b : Option B) (c : C) → both make a b ≡ Some c → AreBoth make a b c
AreBoth_from make None b c is = absurd cc
AreBoth_from make (Some a) None c is = absurd cc
AreBoth_from make (Some a) (Some b) c is = record { left = a; right = b; is_left = refl; is_right = refl; is = sym (inside_Some (make a b) c is) }

pub of_parts_back : {A B C : Type 0} (parts : Parts A B C) (a : Encoding A) (b : Encoding B) → WritesBack a → WritesBack b → WritesBack (of_parts parts a b)
of_parts_back parts a b a_back b_back bytes c fits len is =
    let found = AreBoth_from parts.make (a.value_of (take a.width bytes)) (b.value_of (drop a.width bytes)) c is in
    let first : parts.first c ≡ found.left = ap parts.first found.is ∙ parts.first_is found.left found.right in
    let second : parts.second c ≡ found.right = ap parts.second found.is ∙ parts.second_is found.left found.right in
    let front : a.bytes_of found.left ≡ take a.width bytes = a_back (take a.width bytes) found.left (IsBytes-take a.width bytes fits) (omega (arith, length-take a.width bytes)) found.is_left in
    let behind : b.bytes_of found.right ≡ drop a.width bytes = b_back (drop a.width bytes) found.right (IsBytes-drop a.width bytes fits) (omega (arith, length-drop a.width bytes)) found.is_right in
    rw (first, second, front, behind) (take-append-drop a.width bytes)

pub of_parts_exact : {A B C : Type 0} (parts : Parts A B C) (a_eq : A → A → Bool) (b_eq : B → B → Bool) → ((x y : A) → a_eq x y ≡ true → x ≡ y)
    → ((x y : B) → b_eq x y ≡ true → x ≡ y)
    → (x y : C) → (a_eq (parts.first x) (parts.first y) && b_eq (parts.second x) (parts.second y)) ≡ true → x ≡ y
of_parts_exact parts a_eq b_eq a_exact b_exact x y is =
    let equal = and_parts (a_eq (parts.first x) (parts.first y)) (b_eq (parts.second x) (parts.second y)) is in
    sym (parts.nothing_else x)
    ∙ ap (λ a. parts.make a (parts.second x)) (a_exact (parts.first x) (parts.first y) equal.0)
    ∙ ap (parts.make (parts.first y)) (b_exact (parts.second x) (parts.second y) equal.1)
    ∙ parts.nothing_else y
