-- The types of records by their numbers, and what is said of the records of one, whichever they are.
use Rattle.std.specs.Prelude.{ℕ, ℤ, Option, Some, None, MatchOption, ◌==◌, if◌then◌else◌}
use Rattle.std.specs.Int.{w8, w16, w32, w64}
use Rattle.record_core.specs.Bytes.{Encoding, unsigned, signed, pair, flagged}
use Rattle.record_core.specs.ByteRecords.{bytes16, bytes24, bytes32, bytes64}
use Rattle.c_core.specs.declared.kind.Kind.{Kind}
use Rattle.c_core.specs.declared.kind.Kind.TheVariants as kinds

-- the kinds of u8, u16, u32, u64, i32, i64, f32, f64, pair, flagged, bytes16, bytes24, bytes32 and bytes64, in this order
abbrev pub kind_of : ℕ → Option Kind
kind_of number =
    if number == 0 then Some kinds.U8
    else if number == 1 then Some kinds.U16
    else if number == 2 then Some kinds.U32
    else if number == 3 then Some kinds.U64
    else if number == 4 then Some kinds.U32
    else if number == 5 then Some kinds.I64
    else if number == 6 then Some kinds.U32
    else if number == 7 then Some kinds.U64
    else if number == 8 then Some kinds.Pair
    else if number == 9 then Some kinds.Flagged
    else if number == 10 then Some kinds.Bytes16
    else if number == 11 then Some kinds.Bytes24
    else if number == 12 then Some kinds.Bytes32
    else if number == 13 then Some kinds.Bytes64
    else None

-- what P says of a type and of how its values stand in bytes, said of the records that a kind has
abbrev pub AtKind : ((R : Type 0) → Encoding R → Type 0) → Kind → Type 0
AtKind P kinds.U8 = P ℕ (unsigned w8)
AtKind P kinds.U16 = P ℕ (unsigned w16)
AtKind P kinds.U32 = P ℕ (unsigned w32)
AtKind P kinds.U64 = P ℕ (unsigned w64)
AtKind P kinds.I64 = P ℤ (signed w64)
AtKind P kinds.Pair = P _ pair
AtKind P kinds.Flagged = P _ flagged
AtKind P kinds.Bytes16 = P _ bytes16
AtKind P kinds.Bytes24 = P _ bytes24
AtKind P kinds.Bytes32 = P _ bytes32
AtKind P kinds.Bytes64 = P _ bytes64

-- the same of a number's kind; no statement holds of a number that has none
abbrev pub OfKind : ((R : Type 0) → Encoding R → Type 0) → ℕ → Type 0
OfKind P number = MatchOption (kind_of number) ⊥ (AtKind P)
