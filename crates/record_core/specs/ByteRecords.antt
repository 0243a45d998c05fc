-- Records of 16, 24, 32 and 64 bytes: their words in the order of the file, of each the lowest byte first.
use Rattle.std.specs.Prelude.{◌≡◌, ℕ, Bool, true, ◌&&◌, nat_eq, refl}
use Rattle.std.specs.Cmp.{unsigned_Decides}
use Rattle.std.specs.Int.{w64}
use Rattle.std.proofs.lemmas.Nat.{le_bytes_8}
use Rattle.record_core.specs.Bytes.{Encoding, WritesBack, Parts, of_parts, unsigned}
use Rattle.record_core.specs.WritesBack.{unsigned_back, of_parts_back, of_parts_exact}
use Rattle.record_core.specs.declared.byte_records.Bytes16.{Bytes16}
use Rattle.record_core.specs.declared.byte_records.Bytes24.{Bytes24}
use Rattle.record_core.specs.declared.byte_records.Bytes32.{Bytes32}
use Rattle.record_core.specs.declared.byte_records.Bytes64.{Bytes64}

abbrev pub parts16 : Parts ℕ ℕ Bytes16
parts16 = record { make = λ a b. record { front = a; back = b }; first = λ r. r.front; second = λ r. r.back; first_is = λ a b. refl; second_is = λ a b. refl; nothing_else = λ r. refl }

abbrev pub bytes16 : Encoding Bytes16
bytes16 = of_parts parts16 (unsigned w64) (unsigned w64)

abbrev pub parts24 : Parts Bytes16 ℕ Bytes24
parts24 = record { make = λ a b. record { front = a; back = b }; first = λ r. r.front; second = λ r. r.back; first_is = λ a b. refl; second_is = λ a b. refl; nothing_else = λ r. refl }

abbrev pub bytes24 : Encoding Bytes24
bytes24 = of_parts parts24 bytes16 (unsigned w64)

abbrev pub parts32 : Parts Bytes16 Bytes16 Bytes32
parts32 = record { make = λ a b. record { front = a; back = b }; first = λ r. r.front; second = λ r. r.back; first_is = λ a b. refl; second_is = λ a b. refl; nothing_else = λ r. refl }

abbrev pub bytes32 : Encoding Bytes32
bytes32 = of_parts parts32 bytes16 bytes16

abbrev pub parts64 : Parts Bytes32 Bytes32 Bytes64
parts64 = record { make = λ a b. record { front = a; back = b }; first = λ r. r.front; second = λ r. r.back; first_is = λ a b. refl; second_is = λ a b. refl; nothing_else = λ r. refl }

abbrev pub bytes64 : Encoding Bytes64
bytes64 = of_parts parts64 bytes32 bytes32

-- ---- a record is its bytes, and equal ones are one

abbrev pub bytes16_blank : Bytes16
bytes16_blank = record { front = 0; back = 0 }

abbrev pub bytes24_blank : Bytes24
bytes24_blank = record { front = bytes16_blank; back = 0 }

abbrev pub bytes32_blank : Bytes32
bytes32_blank = record { front = bytes16_blank; back = bytes16_blank }

abbrev pub bytes64_blank : Bytes64
bytes64_blank = record { front = bytes32_blank; back = bytes32_blank }

word_back : WritesBack (unsigned w64)
word_back = unsigned_back w64 le_bytes_8

word_exact : (x y : ℕ) → nat_eq x y ≡ true → x ≡ y
word_exact x y = (unsigned_Decides x y).0

pub bytes16_back : WritesBack bytes16
bytes16_back = of_parts_back parts16 (unsigned w64) (unsigned w64) word_back word_back

abbrev pub bytes16_eq : Bytes16 → Bytes16 → Bool
bytes16_eq x y = nat_eq x.front y.front && nat_eq x.back y.back

pub bytes16_exact : (x y : Bytes16) → bytes16_eq x y ≡ true → x ≡ y
bytes16_exact = of_parts_exact parts16 nat_eq nat_eq word_exact word_exact

pub bytes24_back : WritesBack bytes24
bytes24_back = of_parts_back parts24 bytes16 (unsigned w64) bytes16_back word_back

abbrev pub bytes24_eq : Bytes24 → Bytes24 → Bool
bytes24_eq x y = bytes16_eq x.front y.front && nat_eq x.back y.back

pub bytes24_exact : (x y : Bytes24) → bytes24_eq x y ≡ true → x ≡ y
bytes24_exact = of_parts_exact parts24 bytes16_eq nat_eq bytes16_exact word_exact

pub bytes32_back : WritesBack bytes32
bytes32_back = of_parts_back parts32 bytes16 bytes16 bytes16_back bytes16_back

abbrev pub bytes32_eq : Bytes32 → Bytes32 → Bool
bytes32_eq x y = bytes16_eq x.front y.front && bytes16_eq x.back y.back

pub bytes32_exact : (x y : Bytes32) → bytes32_eq x y ≡ true → x ≡ y
bytes32_exact = of_parts_exact parts32 bytes16_eq bytes16_eq bytes16_exact bytes16_exact

pub bytes64_back : WritesBack bytes64
bytes64_back = of_parts_back parts64 bytes32 bytes32 bytes32_back bytes32_back

abbrev pub bytes64_eq : Bytes64 → Bytes64 → Bool
bytes64_eq x y = bytes32_eq x.front y.front && bytes32_eq x.back y.back

pub bytes64_exact : (x y : Bytes64) → bytes64_eq x y ≡ true → x ≡ y
bytes64_exact = of_parts_exact parts64 bytes32_eq bytes32_eq bytes32_exact bytes32_exact
