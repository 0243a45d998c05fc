-- Worked examples of what the libraries for C share: numbers of refusals and of types, bytes that are records or none, and records
-- that are written, each with the nearest that it must not be.
use Rattle.std.proofs.Common.{◌≡◌, ℕ, zero, suc, ◌<◌, true, List, [], ◌∷◌, ◌++◌, Option, Some, None, refl, ap, arith}
use Rattle.std.specs.Int.{w16}
use Rattle.record_core.specs.Bytes.{Encoding, unsigned, flagged}
use Rattle.record_core.specs.Cells.{AreRecords}
use Rattle.record_core.specs.declared.key_flag.Flagged.{Flagged}
use Rattle.segment_core.specs.declared.fault.Cause.TheVariants as causes
use Rattle.segment_core.specs.declared.fault.ScanFault.TheVariants as faults
use Rattle.c_core.specs.declared.kind.Kind.TheVariants as kinds
use Rattle.c_core.specs.declared.refusal.Refusal.{Refusal}
use Rattle.c_core.specs.declared.refusal.Refusal.TheVariants as refusals
use Rattle.c_core.specs.Kind.{kind_of, AtKind, OfKind}
use Rattle.c_core.specs.Records.{AreNone, AreWritten, IsRecord, IsNoRecord}
use Rattle.c_core.specs.Refusal.{code_of, of_scan}
use Rattle.c_core.proofs.NoRecords.{not_whole, one_is_bad}

-- ---- refusals

-- done is told of nothing that was refused
never_done : (refusal : Refusal) → code_of refusal ≡ 0 → ⊥
never_done refusals.Unborn is = absurd (omega arith)
never_done refusals.NotSegment is = absurd (omega arith)
never_done refusals.Version is = absurd (omega arith)
never_done refusals.Width is = absurd (omega arith)
never_done refusals.Damaged is = absurd (omega arith)
never_done refusals.Memory is = absurd (omega arith)
never_done refusals.Empty is = absurd (omega arith)
never_done refusals.OutOfRange is = absurd (omega arith)
never_done refusals.TooLarge is = absurd (omega arith)
never_done refusals.FileFull is = absurd (omega arith)
never_done refusals.NoRoom is = absurd (omega arith)
never_done refusals.NoFrame is = absurd (omega arith)
never_done refusals.NoRecord is = absurd (omega arith)
never_done refusals.Exists is = absurd (omega arith)
never_done refusals.Broken is = absurd (omega arith)
never_done refusals.NotSo is = absurd (omega arith)
never_done refusals.Again is = absurd (omega arith)
never_done refusals.Full is = absurd (omega arith)
never_done refusals.Busy is = absurd (omega arith)
never_done refusals.Unfolded is = absurd (omega arith)
never_done refusals.Unsettled is = absurd (omega arith)

told_in_numbers : (code_of (of_scan faults.Unborn) ≡ 1) × (code_of (of_scan (faults.Width 4)) ≡ 4) × (code_of (of_scan (faults.Damaged 33 causes.Runs)) ≡ 5)
    × (code_of refusals.NoRecord ≡ 13) × (code_of refusals.Exists ≡ 32) × (code_of refusals.Broken ≡ 34) × (code_of refusals.NotSo ≡ 64)
    × (code_of refusals.Again ≡ 65) × (code_of refusals.Full ≡ 66) × (code_of refusals.Busy ≡ 67) × (code_of refusals.Unfolded ≡ 69) × (code_of refusals.Unsettled ≡ 70)
told_in_numbers = (refl, refl, refl, refl, refl, refl, refl, refl, refl, refl, refl, refl)

-- ---- types

-- in the order of the header's table
types_by_number :
    (kind_of 0 ≡ Some kinds.U8)
    × (kind_of 1 ≡ Some kinds.U16)
    × (kind_of 2 ≡ Some kinds.U32)
    × (kind_of 3 ≡ Some kinds.U64)
    × (kind_of 4 ≡ Some kinds.U32)
    × (kind_of 5 ≡ Some kinds.I64)
    × (kind_of 6 ≡ Some kinds.U32)
    × (kind_of 7 ≡ Some kinds.U64)
    × (kind_of 8 ≡ Some kinds.Pair)
    × (kind_of 9 ≡ Some kinds.Flagged)
    × (kind_of 10 ≡ Some kinds.Bytes16)
    × (kind_of 11 ≡ Some kinds.Bytes24)
    × (kind_of 12 ≡ Some kinds.Bytes32)
    × (kind_of 13 ≡ Some kinds.Bytes64)
types_by_number = (refl, refl, refl, refl, refl, refl, refl, refl, refl, refl, refl, refl, refl, refl)

none_behind_the_last : (kind_of 14 ≡ None) × (kind_of 4294967295 ≡ None)
none_behind_the_last = (refl, refl)

-- records of so many bytes, of which all bits set are this one
abbrev HasWidth : ℕ → (R : Type 0) → Encoding R → Type 0
HasWidth width R form = form.width ≡ width

widths :
    AtKind (HasWidth 1) kinds.U8
    × AtKind (HasWidth 2) kinds.U16
    × AtKind (HasWidth 4) kinds.U32
    × AtKind (HasWidth 8) kinds.U64
    × AtKind (HasWidth 8) kinds.I64
    × AtKind (HasWidth 16) kinds.Pair
    × AtKind (HasWidth 9) kinds.Flagged
    × AtKind (HasWidth 16) kinds.Bytes16
    × AtKind (HasWidth 24) kinds.Bytes24
    × AtKind (HasWidth 32) kinds.Bytes32
    × AtKind (HasWidth 64) kinds.Bytes64
widths = (refl, refl, refl, refl, refl, refl, refl, refl, refl, refl, refl)

not_of_another_width : OfKind (HasWidth 8) 9 → ⊥
not_of_another_width is = absurd (omega arith)

-- nothing is said of a number that no type has, whatever holds of every record
nothing_of_no_type : OfKind (λ R form. Unit {0}) 14 → ⊥
nothing_of_no_type said = said

something_of_each_type : OfKind (λ R form. Unit {0}) 13
something_of_each_type = tt

-- ---- bytes that are records

abbrev five_and_set : List ℕ
five_and_set = 5 ∷ 0 ∷ 0 ∷ 0 ∷ 0 ∷ 0 ∷ 0 ∷ 0 ∷ 1 ∷ []

only_first : (P : ℕ → Type 0) → P 0 → (i : ℕ) → i < 1 → P i
only_first P first zero lt = first
only_first P first (suc i) lt = absurd (omega arith)

one_flagged : AreRecords flagged five_and_set (record { key = 5; flag = true } ∷ [])
one_flagged = record { filled = refl; each = only_first _ refl }

-- where there are records it isn't told that there are none
not_none : AreNone flagged five_and_set → ⊥
not_none none = none (record { key = 5; flag = true } ∷ []) one_flagged

no_bytes_are_no_records : AreNone flagged [] → ⊥
no_bytes_are_no_records none = none [] (record { filled = refl; each = λ i lt. absurd (omega arith) })

a_flag_of_2 : AreNone flagged (5 ∷ 0 ∷ 0 ∷ 0 ∷ 0 ∷ 0 ∷ 0 ∷ 0 ∷ 2 ∷ [])
a_flag_of_2 = one_is_bad flagged (5 ∷ 0 ∷ 0 ∷ 0 ∷ 0 ∷ 0 ∷ 0 ∷ 0 ∷ 2 ∷ []) 9 1 0 (omega arith) refl refl (omega arith) refl

a_byte_less : AreNone flagged (5 ∷ 0 ∷ 0 ∷ 0 ∷ 0 ∷ 0 ∷ 0 ∷ 0 ∷ [])
a_byte_less = not_whole flagged (5 ∷ 0 ∷ 0 ∷ 0 ∷ 0 ∷ 0 ∷ 0 ∷ 0 ∷ []) 9 refl (λ whole. absurd (omega arith))

-- ---- bytes that are one record

one_of_it : IsRecord flagged five_and_set (record { key = 5; flag = true })
one_of_it = record { whole = refl; read = refl }

abbrev key_in : Option Flagged → ℕ
key_in None = 0
key_in (Some flagged) = flagged.key

not_another : IsRecord flagged five_and_set (record { key = 6; flag = true }) → ⊥
not_another is = absurd (let same = ap key_in is.read in omega (arith, same))

not_none_of_it : IsNoRecord flagged five_and_set → ⊥
not_none_of_it none = absurd (let same = none refl in cc)

a_byte_less_is_none : IsNoRecord flagged (5 ∷ 0 ∷ 0 ∷ 0 ∷ 0 ∷ 0 ∷ 0 ∷ 0 ∷ [])
a_byte_less_is_none same = absurd (omega (arith, same))

two_are_not_one : (flag : Flagged) → IsRecord flagged (five_and_set ++ five_and_set) flag → ⊥
two_are_not_one flag is = absurd (let same = is.whole in omega (arith, same))

-- ---- records that are written

abbrev numbers : Encoding ℕ
numbers = unsigned w16

abbrev room : List ℕ
room = 9 ∷ 9 ∷ 9 ∷ 9 ∷ 9 ∷ []

written : AreWritten numbers (1 ∷ 2 ∷ 3 ∷ []) 1 room (2 ∷ 0 ∷ 3 ∷ 0 ∷ 9 ∷ []) 2
written = record { count_is = refl; written = refl }

-- as far as the room reaches
only_what_fits : AreWritten numbers (1 ∷ 2 ∷ 3 ∷ []) 0 room (1 ∷ 0 ∷ 2 ∷ 0 ∷ 9 ∷ []) 2
only_what_fits = record { count_is = refl; written = refl }

not_from_the_first : AreWritten numbers (1 ∷ 2 ∷ 3 ∷ []) 1 room (1 ∷ 0 ∷ 2 ∷ 0 ∷ 9 ∷ []) 2 → ⊥
not_from_the_first are = absurd (let same = are.written in cc)

not_half_a_record_more : AreWritten numbers (1 ∷ 2 ∷ 3 ∷ []) 0 room (1 ∷ 0 ∷ 2 ∷ 0 ∷ 3 ∷ []) 2 → ⊥
not_half_a_record_more are = absurd (let same = are.written in cc)

not_fewer : AreWritten numbers (1 ∷ 2 ∷ 3 ∷ []) 1 room (2 ∷ 0 ∷ 9 ∷ 9 ∷ 9 ∷ []) 1 → ⊥
not_fewer are = absurd (let same = are.count_is in omega arith)

none_behind_the_end : AreWritten numbers (1 ∷ 2 ∷ 3 ∷ []) 3 room room 0
none_behind_the_end = record { count_is = refl; written = refl }
