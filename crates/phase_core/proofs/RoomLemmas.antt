-- A phase by the room that it has, and by the room that is asked for.
use Rattle.std.proofs.Common.{◌≡◌, ℕ, Bool, false, Option, None, Some, if◌then◌else◌, refl, ap, sym, ◌∙◌, inl, inr, arith}
use Rattle.std.specs.Option.{is_some}
use Rattle.disk_core.specs.declared.disk.Disk.{Ghosts}
use Rattle.pen_core.specs.declared.fault.PenFault.{PenFault}
use Rattle.pen_core.specs.declared.fault.PenFault.TheVariants.{Broken, Busy}
use Rattle.pen_core.specs.PenOf.{PenOf, JobOf}
use Rattle.pen_core.specs.Refusals.{first_refusal, ready_lines}
use Rattle.directory_core.specs.Limits.{place_limit, growth_limit}
use Rattle.book_core.specs.Lists.{Phase}
use Rattle.book_core.specs.Beginning.{MayBeginWithin}
use Rattle.flush_core.specs.Flusher.{FlusherOf}
use Rattle.vault_core.specs.declared.fault.VaultFault.{VaultFault}
use Rattle.vault_core.specs.declared.fault.VaultFault.TheVariants.{Pen, Unsettled, WrongPhase}
use Rattle.vault_core.specs.Vault.{VaultOf}
use Rattle.vault_core.specs.Sharing.{Shares, IsNotSharedWithin, IsWideShareFault}
use Rattle.relay_core.specs.declared.relay_disk.RelayDisk.{RelayDisk}
use Rattle.phase_core.specs.Beginning.{IsLendRefusal}
use Rattle.phase_core.specs.Sharing.{RefusesLending}

pub shares_room : {R D : Type 0} (keeps : Type 0) (vault : VaultOf R D) (room seats : ℕ) (live : Phase R) (f : FlusherOf R D)
    → Shares keeps vault room seats live f → Shares keeps vault live.directory.room seats live f
shares_room keeps vault room seats live f shares = record {
  blocks = shares.blocks;
  room_is = refl;
  seats_are = shares.seats_are;
  of = shares.of;
  pen = shares.pen;
  knows = shares.knows;
  counts = shares.counts;
  told = shares.told;
}

-- what refuses a narrow phase, where a wide one might be begun but for memory, refuses that one too
not_shared : (growths seats : ℕ) (fault : PenFault) → MayBeginWithin place_limit growths seats → IsNotSharedWithin place_limit growth_limit seats fault
    → IsNotSharedWithin place_limit growths seats fault
not_shared growths seats fault may (inl large) = absurd (elim large.1 [
  | inl none ↦ omega (arith, none)
  | inr rest ↦ elim rest [
    | inl past ↦ omega (arith, past)
    | inr seats_out ↦ elim seats_out [
      | inl none ↦ omega (arith, none, may.seats_in.0)
      | inr past ↦ omega (arith, past, may.seats_in.1)
    ]
  ]
])
not_shared growths seats fault may (inr memory) = inr (memory.0, may)

pub narrow_fault : {R D : Type 0} (vault : VaultOf R D) (growths seats : ℕ) (fault : VaultFault) → MayBeginWithin place_limit growths seats
    → IsWideShareFault vault growth_limit seats fault → IsWideShareFault vault growths seats fault
narrow_fault vault growths seats (Pen fault) may (inl ready) = inl ready
narrow_fault vault growths seats (Pen fault) may (inr other) = inr (other.0, not_shared growths seats fault may other.1)
narrow_fault vault growths seats (Unsettled number) may is = absurd is
narrow_fault vault growths seats WrongPhase may is = absurd is

-- of a vault that isn't broken and has nothing in hand
none_first : {D : Type 0} (pen : PenOf D) → pen.broken ≡ false → pen.job ≡ None → first_refusal (ready_lines pen) ≡ None
none_first pen whole idle =
    ap (λ (broken : Bool). if broken then Some Broken else (if is_some pen.job then Some Busy else None)) whole
    ∙ ap (λ (job : Option JobOf). if is_some job then Some Busy else None) idle

pub lend_refused : {R D : Type 0} {disk : Ghosts D} (vault : VaultOf R (RelayDisk D disk)) (growths seats : ℕ) (left : Option (VaultOf R (RelayDisk D disk))) (fault : PenFault)
    → vault.pen.broken ≡ false → vault.pen.job ≡ None → RefusesLending vault growths seats left fault → IsLendRefusal growths seats fault
lend_refused vault growths seats None fault whole idle memory = inl memory
lend_refused vault growths seats (Some left) fault whole idle refused = elim refused.1 [
  | inl first ↦ absurd (let some = sym first ∙ none_first vault.pen whole idle in cc)
  | inr rest ↦ elim rest.1 [ inl large ↦ inr large | inr memory ↦ inl memory.0 ]
]
