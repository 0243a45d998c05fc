-- What the definitions of crews allow and rule out, on the smallest examples.
use Rattle.std.proofs.Common.{◌≡◌, ℕ, ◌+◌, ◌*◌, ◌<◌, ◌≤◌, List, [], ◌∷◌, length, refl, ap, subst, arith}
use Rattle.record_core.specs.Bytes.{Encoding}
use Rattle.disk_core.specs.State.{State}
use Rattle.pen_core.specs.declared.fault.PenFault.TheVariants as pens
use Rattle.block_core.specs.Growth.{Growth}
use Rattle.block_core.specs.declared.fault.FreshFault.TheVariants as fresh
use Rattle.book_core.specs.declared.fault.GrowFault.TheVariants.{Closed, Full}
use Rattle.vault_core.specs.declared.ending.Gathering.{Gathering}
use Rattle.vault_core.specs.declared.fault.VaultFault.{VaultFault}
use Rattle.vault_core.specs.declared.fault.VaultFault.TheVariants.{Pen, Unsettled}
use Rattle.vault_core.specs.Sharing.{IsShareFault}
use Rattle.vault_core.specs.Gathering.{IsGatherFault}
use Rattle.vault_core.specs.Vault.{VaultOf}
use Rattle.crew_core.specs.declared.crewing.CrewFault.TheVariants.{Share, Gather}
use Rattle.crew_core.specs.Crewing.{IsCrewFault, IsReason, IsSourceFault}

-- ---- sources

-- no record is none for a block, and one record is; 131,071 of eight bytes are the most
no_records : IsSourceFault 8 0 fresh.Empty
no_records = refl

one_record : IsSourceFault 8 1 fresh.Empty → ⊥
one_record none = omega arith

too_many : IsSourceFault 8 131072 fresh.TooLarge
too_many = omega arith

the_most : IsSourceFault 8 131071 fresh.TooLarge → ⊥
the_most large = omega (arith, large)

-- ---- why a grower stopped

abbrev one_growth : List (Growth ℕ)
one_growth = record { number = 0; start = 0; seat = 0; serial = 0; records = 7 ∷ [] } ∷ []

-- the second of two growths, in a room for one, and in one for two
room_filled : IsReason 8 1 1 2 (λ _. 7 ∷ []) 0 one_growth 1 Full
room_filled = (omega arith, omega arith)

room_left : IsReason 8 2 1 2 (λ _. 7 ∷ []) 0 one_growth 1 Full → ⊥
room_left why = omega (arith, why.1)

-- one that has made all of its growths has no fault
all_made : IsReason 8 1 1 1 (λ _. 7 ∷ []) 0 one_growth 1 Closed → ⊥
all_made less = omega (arith, less)

-- ---- refusals

module _ {R D : Type 0} (form : Encoding R) (keeps : D → Type 0) (states : D → List State) (vault back : VaultOf R D) (g : Gathering R D) where
  -- a phase that wasn't begun leaves the vault as it was, and says why as `share` does
  not_begun : (fault : VaultFault) → IsShareFault vault 3 2 fault → IsCrewFault form keeps states vault 3 2 (Share vault fault)
  not_begun fault why = (refl, why)

  other_vault : (fault : VaultFault) → length back.blocks ≡ 1 → length vault.blocks ≡ 0 → IsCrewFault form keeps states vault 3 2 (Share back fault) → ⊥
  other_vault fault one none why = omega (arith, ap (λ (v : VaultOf R D). length v.blocks) why.0)

  never_unsettled : (number : ℕ) → IsCrewFault form keeps states vault 3 2 (Share back (Unsettled number)) → ⊥
  never_unsettled number why = why.1

  -- one that wasn't ended hands all seats back, and says why as `gather` does
  seat_lost : length g.seats.items ≡ 1 → IsCrewFault form keeps states vault 3 2 (Gather g) → ⊥
  seat_lost one why = omega (arith, why.3)

  never_outside : g.fault ≡ Pen pens.OutOfRange → IsCrewFault form keeps states vault 3 2 (Gather g) → ⊥
  never_outside is why = subst (IsGatherFault g.live g.seats.items g.flusher) is why.6
