-- Ends by what records their vector has, and what a call makes of one.
use Rattle.std.specs.Prelude.{◌≡◌, ◌≢◌, ◌⊎◌, ℕ, Option, Some}
use Rattle.std.specs.declared.cmp.PartialEq as PartialEq
use Rattle.record_core.specs.declared.record.Record as Record
use Rattle.c_core.specs.declared.refusal.Refusal.{Refusal}
use Rattle.c_core.specs.declared.refusal.Refusal.TheVariants.{Width}
use Rattle.handle_core.specs.declared.end.Role.{Role}
use Rattle.handle_core.specs.declared.end.End.{End}
use Rattle.handle_core.specs.declared.end.End.TheVariants as ends

-- there was one, and is one, and these are so related
abbrev pub Becomes : {T : Type 0} → (T → T → Type 0) → Option T → Option T → Type 0
Becomes P (Some old) (Some new) = P old new
Becomes P old new = ⊥

-- the bytes of a record
abbrev pub width_of : End → ℕ
width_of (ends.U8 role) = 1
width_of (ends.U16 role) = 2
width_of (ends.U32 role) = 4
width_of (ends.U64 role) = 8
width_of (ends.Pair role) = 16
width_of (ends.Flagged role) = 9
width_of (ends.Bytes24 role) = 24
width_of (ends.Bytes32 role) = 32
width_of (ends.Bytes64 role) = 64

-- such a width is there
abbrev pub IsWidth : ℕ → Type 0
IsWidth width = (end : End) × (width_of end ≡ width)

-- what is said of an end, of any records
abbrev pub OfAny : ((R : Type 0) (record_of : Record.Ghosts R) (eq_of : PartialEq.Ghosts R) → Role R record_of eq_of → Type 0) → End → Type 0
OfAny P (ends.U8 role) = P _ _ _ role
OfAny P (ends.U16 role) = P _ _ _ role
OfAny P (ends.U32 role) = P _ _ _ role
OfAny P (ends.U64 role) = P _ _ _ role
OfAny P (ends.Pair role) = P _ _ _ role
OfAny P (ends.Flagged role) = P _ _ _ role
OfAny P (ends.Bytes24 role) = P _ _ _ role
OfAny P (ends.Bytes32 role) = P _ _ _ role
OfAny P (ends.Bytes64 role) = P _ _ _ role

-- both have the same records, and are so related
abbrev pub AtAny : ((R : Type 0) (record_of : Record.Ghosts R) (eq_of : PartialEq.Ghosts R) → Role R record_of eq_of → Role R record_of eq_of → Type 0) → End → End → Type 0
AtAny P (ends.U8 old) (ends.U8 new) = P _ _ _ old new
AtAny P (ends.U16 old) (ends.U16 new) = P _ _ _ old new
AtAny P (ends.U32 old) (ends.U32 new) = P _ _ _ old new
AtAny P (ends.U64 old) (ends.U64 new) = P _ _ _ old new
AtAny P (ends.Pair old) (ends.Pair new) = P _ _ _ old new
AtAny P (ends.Flagged old) (ends.Flagged new) = P _ _ _ old new
AtAny P (ends.Bytes24 old) (ends.Bytes24 new) = P _ _ _ old new
AtAny P (ends.Bytes32 old) (ends.Bytes32 new) = P _ _ _ old new
AtAny P (ends.Bytes64 old) (ends.Bytes64 new) = P _ _ _ old new
AtAny P old new = ⊥

-- all three have
abbrev pub AllAt : ((R : Type 0) (record_of : Record.Ghosts R) (eq_of : PartialEq.Ghosts R) → Role R record_of eq_of → Role R record_of eq_of → Role R record_of eq_of → Type 0) → End → End → End → Type 0
AllAt P (ends.U8 end) (ends.U8 old) (ends.U8 new) = P _ _ _ end old new
AllAt P (ends.U16 end) (ends.U16 old) (ends.U16 new) = P _ _ _ end old new
AllAt P (ends.U32 end) (ends.U32 old) (ends.U32 new) = P _ _ _ end old new
AllAt P (ends.U64 end) (ends.U64 old) (ends.U64 new) = P _ _ _ end old new
AllAt P (ends.Pair end) (ends.Pair old) (ends.Pair new) = P _ _ _ end old new
AllAt P (ends.Flagged end) (ends.Flagged old) (ends.Flagged new) = P _ _ _ end old new
AllAt P (ends.Bytes24 end) (ends.Bytes24 old) (ends.Bytes24 new) = P _ _ _ end old new
AllAt P (ends.Bytes32 end) (ends.Bytes32 old) (ends.Bytes32 new) = P _ _ _ end old new
AllAt P (ends.Bytes64 end) (ends.Bytes64 old) (ends.Bytes64 new) = P _ _ _ end old new
AllAt P end old new = ⊥

-- why a call of an end with another one is refused: so; or they have other records, and it is as it was
abbrev pub RefusedWith : (Refusal → (R : Type 0) (record_of : Record.Ghosts R) (eq_of : PartialEq.Ghosts R) → Role R record_of eq_of → Role R record_of eq_of → Role R record_of eq_of → Type 0) → Refusal → End → End → End → Type 0
RefusedWith P refusal end old new = AllAt (P refusal) end old new ⊎ ((refusal ≡ Width) × (width_of end ≢ width_of old) × (new ≡ old))
