-- Worked examples: what is told of listed calls, and which handles have a file, a phase and a seat, and which don't.
use Rattle.std.proofs.Common.{◌≡◌, ℕ, [], ◌∷◌, length, None, Some, inl, inr, refl, sym, ◌∙◌, ap, arith}
use Rattle.std.specs.Global.{Vec}
use denote.RawPtr.{Ptr}
use Rattle.std.specs.contracts.prelude.U32PartialEq.TheImpl as u32_eq
use Rattle.std.specs.contracts.prelude.U64PartialEq.TheImpl as u64_eq
use Rattle.record_core.specs.contracts.number.U32Record.TheImpl as u32_record
use Rattle.record_core.specs.contracts.number.U64Record.TheImpl as u64_record
use Rattle.segment_core.specs.declared.format.Format.TheVariants.{One, Two}
use Rattle.relay_core.specs.declared.call.Call.TheVariants.{Write, Sync}
use Rattle.handle_core.specs.declared.end.Role.{Role}
use Rattle.handle_core.specs.declared.end.Role.TheVariants as roles
use Rattle.handle_core.specs.declared.end.End.{End}
use Rattle.handle_core.specs.declared.end.End.TheVariants as ends
use Rattle.cvec_threads.specs.Begins.{HasFile, HasBegun, HasSeat, IsLeft, IsMadeAs}
use Rattle.cvec_threads.specs.declared.file_call.CvecCall.{CvecCall}
use Rattle.cvec_threads.specs.Calls.{IsToldOf, IsToldAt}

zero_is_no_one : ◌≡◌ {A = ℕ} 0 1 → ⊥
zero_is_no_one is = absurd (omega (arith, is))

five_is_no_six : ◌≡◌ {A = ℕ} 5 6 → ⊥
five_is_no_six is = absurd (omega (arith, is))

-- ---- calls

-- the second of two syncs is a sync
told : (p : Ptr) → IsToldAt (Sync ∷ Sync ∷ []) 1 (record { at = 0; bytes = p; len = 0; kind = 1 })
told p = record { listed = Sync; at = refl; told = (refl, refl, refl) }

-- no call is told of an empty list
none : (number : ℕ) (call : CvecCall) → IsToldAt [] number call → ⊥
none number call is = cc

module _ (bytes : Vec ℕ) where
  -- a write is told where it begins, with its own bytes, all of them
  write_told : IsToldOf (Write 5 bytes) (record { at = 5; bytes = bytes.ptr; len = length bytes.items; kind = 0 })
  write_told = (refl, refl, refl, refl)

  write_elsewhere : (call : CvecCall) → call.at ≡ 6 → IsToldOf (Write 5 bytes) call → ⊥
  write_elsewhere call at is = five_is_no_six (sym is.0 ∙ at)

  write_cut : (call : CvecCall) → bytes.items ≡ 7 ∷ [] → call.len ≡ 0 → IsToldOf (Write 5 bytes) call → ⊥
  write_cut call one len is = zero_is_no_one (sym len ∙ is.2 ∙ ap length one)

  write_as_sync : (call : CvecCall) → call.kind ≡ 1 → IsToldOf (Write 5 bytes) call → ⊥
  write_as_sync call kind is = zero_is_no_one (sym is.3 ∙ kind)

sync_as_write : (call : CvecCall) → call.kind ≡ 0 → IsToldOf Sync call → ⊥
sync_as_write call kind is = zero_is_no_one (sym kind ∙ is.2)

-- ---- handles

abbrev U32Role : Type 0
U32Role = Role ℕ u32_record.ghosts u32_eq.ghosts

abbrev U64Role : Type 0
U64Role = Role ℕ u64_record.ghosts u64_eq.ghosts

-- a file of which nothing is read, of records of 8 bytes
has_file : (read : Vec ℕ) → read.items ≡ [] → HasFile 8 (Some (ends.U64 (roles.File read)))
has_file read nothing = (refl, nothing)

file_of_another_width : (role : U32Role) → HasFile 8 (Some (ends.U32 role)) → ⊥
file_of_another_width role is = let four : 4 ≡ 8 = is.0 in absurd (omega (arith, four))

file_already_read : (read : Vec ℕ) → read.items ≡ 7 ∷ [] → HasFile 8 (Some (ends.U64 (roles.File read))) → ⊥
file_already_read read seven is = zero_is_no_one (ap length (sym is.1 ∙ seven))

file_of_no_end : HasFile 8 None → ⊥
file_of_no_end is = is

file_of_no_file : HasFile 8 (Some (ends.U64 roles.Nothing)) → ⊥
file_of_no_file is = is.1

-- nothing begins without a file, nor where the phase or who commits is of other records
begun_of_nothing : (new phase : End) → HasBegun None 9 2 None (Some new) (Some phase) → ⊥
begun_of_nothing new phase is = is

begun_of_another_width : (old new : U64Role) (phase : U32Role) → HasBegun None 9 2 (Some (ends.U64 old)) (Some (ends.U64 new)) (Some (ends.U32 phase)) → ⊥
begun_of_another_width old new phase is = is

begun_without_phase : (old new : End) → HasBegun None 9 2 (Some old) (Some new) None → ⊥
begun_without_phase old new is = is

-- what is made is of the version that was asked for, and nothing for 0
made_as : IsMadeAs 0 None × IsMadeAs 1 (Some One) × IsMadeAs 2 (Some Two)
made_as = (refl, refl, refl)

made_as_other : IsMadeAs 1 (Some Two) → ⊥
made_as_other is = let same : 1 ≡ 2 = is in absurd (omega (arith, same))

not_made : IsMadeAs 1 None → ⊥
not_made is = zero_is_no_one (sym is)

-- a handle has what it had, or nothing; no end comes of nothing
left : (end : End) → IsLeft (Some end) (Some end) × IsLeft (Some end) None
left end = (inl refl, inr refl)

left_of_nothing : (end : End) → IsLeft None (Some end) → ⊥
left_of_nothing end is = elim is [ inl same ↦ cc | inr same ↦ cc ]

-- a seat is of the phase's records, and a grower
seat_of_nothing : (old new : End) → HasSeat (Some old) (Some new) None → ⊥
seat_of_nothing old new is = is

seat_of_another_width : (old new : U64Role) (seat : U32Role) → HasSeat (Some (ends.U64 old)) (Some (ends.U64 new)) (Some (ends.U32 seat)) → ⊥
seat_of_another_width old new seat is = is

seat_that_is_a_file : (old new : U64Role) (read : Vec ℕ) → HasSeat (Some (ends.U64 old)) (Some (ends.U64 new)) (Some (ends.U64 (roles.File read))) → ⊥
seat_that_is_a_file old new read is = is
