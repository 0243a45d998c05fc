-- What a call makes of a handle, by what it takes out and puts back.
use Rattle.std.proofs.Common.{◌≡◌, ℕ, Option, None, Some, inr, refl, sym, subst}
use Rattle.std.specs.declared.cmp.PartialEq as PartialEq
use Rattle.record_core.specs.declared.record.Record as Record
use Rattle.c_core.specs.declared.refusal.Refusal.{Refusal}
use Rattle.c_core.specs.declared.refusal.Refusal.TheVariants.{Memory, NotSo}
use Rattle.c_core.specs.Refusal.{code_of}
use Rattle.handle_core.specs.declared.end.Role.{Role}
use Rattle.handle_core.specs.declared.end.Role.TheVariants as roles
use Rattle.handle_core.specs.declared.end.End.{End}
use Rattle.handle_core.specs.declared.end.End.TheVariants as ends
use Rattle.handle_core.specs.Ends.{Becomes, AllAt, AtAny}
use Rattle.handle_core.specs.Roles.{Seats, RefusesSeat}
use Rattle.handle_core.specs.Handles.{Refused}

pub becomes : (P : End → End → Type 0) (before after : Option End) (old new : End) → before ≡ Some old → after ≡ Some new → P old new → Becomes P before after
becomes P before after old new had has related =
    subst (λ (b : Option End). Becomes P b after) (sym had) (subst (λ (a : Option End). Becomes P (Some old) a) (sym has) related)

pub refused_some : (P : Refusal → End → End → Type 0) (code : ℕ) (refusal : Refusal) (before after : Option End) (old new : End) → code ≡ code_of refusal
    → before ≡ Some old → after ≡ Some new → P refusal old new → Refused P code before after
refused_some P code refusal before after old new is had has related =
    subst (λ (b : Option End). Refused P code b after) (sym had)
    (subst (λ (a : Option End). Refused P code (Some old) a) (sym has) (refusal, is, related))

pub refused_none : (P : Refusal → End → End → Type 0) (code : ℕ) (before after : Option End) → code ≡ code_of NotSo → before ≡ None → after ≡ None → Refused P code before after
refused_none P code before after is had has =
    subst (λ (b : Option End). Refused P code b after) (sym had) (subst (λ (a : Option End). Refused P code None a) (sym has) is)

-- a seat that is taken, and for which there is no memory then
lost_of : {R : Type 0} {record_of : Record.Ghosts R} {eq_of : PartialEq.Ghosts R} (seat old new : Role R record_of eq_of) → Seats seat old new → RefusesSeat Memory old new
lost_of (roles.Grower grower) (roles.Phase old) (roles.Phase new) seats = inr (refl, (grower.seat, seats.0))
lost_of seat old new seats = absurd seats

pub seat_lost : (seat old new : End) → AllAt (λ _ _ _. Seats) seat old new → AtAny (λ _ _ _. RefusesSeat Memory) old new
seat_lost (ends.U8 seat) (ends.U8 old) (ends.U8 new) seats = lost_of seat old new seats
seat_lost (ends.U16 seat) (ends.U16 old) (ends.U16 new) seats = lost_of seat old new seats
seat_lost (ends.U32 seat) (ends.U32 old) (ends.U32 new) seats = lost_of seat old new seats
seat_lost (ends.U64 seat) (ends.U64 old) (ends.U64 new) seats = lost_of seat old new seats
seat_lost (ends.Pair seat) (ends.Pair old) (ends.Pair new) seats = lost_of seat old new seats
seat_lost (ends.Flagged seat) (ends.Flagged old) (ends.Flagged new) seats = lost_of seat old new seats
seat_lost (ends.Bytes24 seat) (ends.Bytes24 old) (ends.Bytes24 new) seats = lost_of seat old new seats
seat_lost (ends.Bytes32 seat) (ends.Bytes32 old) (ends.Bytes32 new) seats = lost_of seat old new seats
seat_lost (ends.Bytes64 seat) (ends.Bytes64 old) (ends.Bytes64 new) seats = lost_of seat old new seats
seat_lost seat old new seats = absurd seats
