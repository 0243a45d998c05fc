-- A phase that isn't wide, begun as a wide one.
use Rattle.std.proofs.Common.{ℕ, ◌≤◌, ◌≡◌, Result, Ok, Err, IfErr, inl, inr, arith}
use Rattle.directory_core.specs.Limits.{place_limit, growth_limit}
use Rattle.vault_core.specs.declared.fault.VaultFault.{VaultFault}
use Rattle.vault_core.specs.declared.fault.VaultFault.TheVariants.{Pen, Unsettled, WrongPhase}
use Rattle.vault_core.specs.Vault.{VaultOf}
use Rattle.vault_core.specs.Sharing.{IsTooLarge, IsTooLargeWithin, IsShareFault, IsWideShareFault}

module _ {R D : Type 0} (v : VaultOf R D) (room seats : ℕ) (few : room ≤ growth_limit) where
  narrow_large : IsTooLargeWithin place_limit room seats → IsTooLarge room seats
  narrow_large (inl none) = inl none
  narrow_large (inr (inl much)) = absurd (omega (arith, much, few))
  narrow_large (inr (inr of_seats)) = inr (inr of_seats)

  narrow_fault : (fault : VaultFault) → IsWideShareFault v room seats fault → IsShareFault v room seats fault
  narrow_fault (Pen fault) (inl ready) = inl ready
  narrow_fault (Pen fault) (inr other) = inr (
    other.0,
    elim other.1 [
      | inl large ↦ inl (large.0, narrow_large large.1)
      | inr memory ↦ inr (memory.0, record { room_in = (memory.1.room_in.0, few); seats_in = memory.1.seats_in })
    ],
  )
  narrow_fault (Unsettled number) why = why
  narrow_fault WrongPhase why = why

  pub narrow_refused : {X : Type 0} (result : Result X (VaultOf R D × VaultFault)) → IfErr result (λ r. (r.0 ≡ v) × IsWideShareFault v room seats r.1)
      → IfErr result (λ r. (r.0 ≡ v) × IsShareFault v room seats r.1)
  narrow_refused (Ok x) refused = tt
  narrow_refused (Err r) refused = (refused.0, narrow_fault r.1 refused.1)
