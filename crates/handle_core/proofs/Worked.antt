-- Worked examples: what a call makes of a handle.
use Rattle.std.proofs.Common.{◌≡◌, ℕ, None, Some, refl}
use Rattle.std.specs.declared.cmp.PartialEq as PartialEq
use Rattle.std.specs.contracts.prelude.U8PartialEq.TheImpl as u8_eq
use Rattle.std.specs.contracts.prelude.U16PartialEq.TheImpl as u16_eq
use Rattle.std.specs.contracts.prelude.U32PartialEq.TheImpl as u32_eq
use Rattle.std.specs.contracts.prelude.U64PartialEq.TheImpl as u64_eq
use Rattle.record_core.specs.declared.record.Record as Record
use Rattle.record_core.specs.declared.key_value.Pair.{Pair}
use Rattle.record_core.specs.declared.key_flag.Flagged.{Flagged}
use Rattle.record_core.specs.contracts.key_value.PairPartialEq.TheImpl as pair_eq
use Rattle.record_core.specs.contracts.key_value.PairRecord.TheImpl as pair_record
use Rattle.record_core.specs.contracts.key_flag.FlaggedPartialEq.TheImpl as flagged_eq
use Rattle.record_core.specs.contracts.key_flag.FlaggedRecord.TheImpl as flagged_record
use Rattle.record_core.specs.contracts.number.U8Record.TheImpl as u8_record
use Rattle.record_core.specs.contracts.number.U16Record.TheImpl as u16_record
use Rattle.record_core.specs.contracts.number.U32Record.TheImpl as u32_record
use Rattle.record_core.specs.declared.byte_records.Bytes24.{Bytes24}
use Rattle.record_core.specs.contracts.byte_records.Bytes24PartialEq.TheImpl as bytes24_eq
use Rattle.record_core.specs.contracts.byte_records.Bytes24Record.TheImpl as bytes24_record
use Rattle.record_core.specs.declared.byte_records.Bytes32.{Bytes32}
use Rattle.record_core.specs.contracts.byte_records.Bytes32PartialEq.TheImpl as bytes32_eq
use Rattle.record_core.specs.contracts.byte_records.Bytes32Record.TheImpl as bytes32_record
use Rattle.record_core.specs.declared.byte_records.Bytes64.{Bytes64}
use Rattle.record_core.specs.contracts.byte_records.Bytes64PartialEq.TheImpl as bytes64_eq
use Rattle.record_core.specs.contracts.byte_records.Bytes64Record.TheImpl as bytes64_record
use Rattle.record_core.specs.contracts.number.U64Record.TheImpl as u64_record
use Rattle.c_core.specs.declared.refusal.Refusal.{Refusal}
use Rattle.handle_core.specs.declared.end.Role.{Role}
use Rattle.handle_core.specs.declared.end.End.{End}
use Rattle.handle_core.specs.declared.end.End.TheVariants as ends
use Rattle.handle_core.specs.Ends.{width_of, OfAny, AtAny, AllAt, Becomes}
use Rattle.handle_core.specs.Handles.{Refused}

-- a handle that has what it had
stays : (end : End) → Becomes (λ old new. new ≡ old) (Some end) (Some end)
stays end = refl

-- one whose end is gone isn't so, whatever is asked of the ends
gone : (P : End → End → Type 0) (end : End) → Becomes P (Some end) None → ⊥
gone P end becomes = becomes

abbrev U8Role : Type 0
U8Role = Role ℕ u8_record.ghosts u8_eq.ghosts

abbrev U16Role : Type 0
U16Role = Role ℕ u16_record.ghosts u16_eq.ghosts

abbrev U32Role : Type 0
U32Role = Role ℕ u32_record.ghosts u32_eq.ghosts

abbrev U64Role : Type 0
U64Role = Role ℕ u64_record.ghosts u64_eq.ghosts

abbrev PairRole : Type 0
PairRole = Role Pair pair_record.ghosts pair_eq.ghosts

abbrev FlaggedRole : Type 0
FlaggedRole = Role Flagged flagged_record.ghosts flagged_eq.ghosts

abbrev Bytes24Role : Type 0
Bytes24Role = Role Bytes24 bytes24_record.ghosts bytes24_eq.ghosts

abbrev Bytes32Role : Type 0
Bytes32Role = Role Bytes32 bytes32_record.ghosts bytes32_eq.ghosts

abbrev Bytes64Role : Type 0
Bytes64Role = Role Bytes64 bytes64_record.ghosts bytes64_eq.ghosts

-- the bytes of a record of each width: what a file of C's types is asked for
widths : (a : U8Role) (b : U16Role) (c : U32Role) (d : U64Role) (e : PairRole) (f : FlaggedRole)
    → (width_of (ends.U8 a) ≡ 1) × (width_of (ends.U16 b) ≡ 2) × (width_of (ends.U32 c) ≡ 4)
    × (width_of (ends.U64 d) ≡ 8) × (width_of (ends.Pair e) ≡ 16) × (width_of (ends.Flagged f) ≡ 9)
widths a b c d e f = (refl, refl, refl, refl, refl, refl)

widths_of_bytes : (a : Bytes24Role) (b : Bytes32Role) (c : Bytes64Role)
    → (width_of (ends.Bytes24 a) ≡ 24) × (width_of (ends.Bytes32 b) ≡ 32) × (width_of (ends.Bytes64 c) ≡ 64)
widths_of_bytes a b c = (refl, refl, refl)

-- what is said of any records is said of those that the ends have, whichever these are
abbrev Any : Type 1
Any = (R : Type 0) (record_of : Record.Ghosts R) (eq_of : PartialEq.Ghosts R) → Role R record_of eq_of → Role R record_of eq_of → Type 0

any_u32 : (P : Any) (old new : U32Role) → AtAny P (ends.U32 old) (ends.U32 new) → P _ _ _ old new
any_u32 P old new made = made

any_pair : (P : Any) (old new : PairRole) → AtAny P (ends.Pair old) (ends.Pair new) → P _ _ _ old new
any_pair P old new made = made

any_flagged : (P : Any) (old new : FlaggedRole) → AtAny P (ends.Flagged old) (ends.Flagged new) → P _ _ _ old new
any_flagged P old new made = made

any_bytes24 : (P : Any) (old new : Bytes24Role) → AtAny P (ends.Bytes24 old) (ends.Bytes24 new) → P _ _ _ old new
any_bytes24 P old new made = made

any_bytes32 : (P : Any) (old new : Bytes32Role) → AtAny P (ends.Bytes32 old) (ends.Bytes32 new) → P _ _ _ old new
any_bytes32 P old new made = made

any_bytes64 : (P : Any) (old new : Bytes64Role) → AtAny P (ends.Bytes64 old) (ends.Bytes64 new) → P _ _ _ old new
any_bytes64 P old new made = made

any_u8 : (P : Any) (old new : U8Role) → AtAny P (ends.U8 old) (ends.U8 new) → P _ _ _ old new
any_u8 P old new made = made

any_u16 : (P : Any) (old new : U16Role) → AtAny P (ends.U16 old) (ends.U16 new) → P _ _ _ old new
any_u16 P old new made = made

-- no call makes an end of one width of an end of another
any_other : (P : Any) (old : U64Role) (new : FlaggedRole) → AtAny P (ends.U64 old) (ends.Flagged new) → ⊥
any_other P old new made = made

all_flagged : (end old new : FlaggedRole)
    → AllAt (λ _ _ _ end old new. (end ≡ old) × (old ≡ new)) (ends.Flagged end) (ends.Flagged old) (ends.Flagged new) → (end ≡ old) × (old ≡ new)
all_flagged end old new same = same

of_pair : (role : PairRole) → OfAny (λ _ _ _ _. ⊥) (ends.Pair role) → ⊥
of_pair role never = never

-- a handle with nothing is refused by 64 alone
refused_empty : (P : Refusal → End → End → Type 0) → Refused P 64 None None
refused_empty P = refl

refused_otherwise : (P : Refusal → End → End → Type 0) → Refused P 6 None None → ⊥
refused_otherwise P refused = let same : 6 ≡ 64 = refused in cc
