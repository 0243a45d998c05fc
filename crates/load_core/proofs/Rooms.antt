-- A phase has room for the growths of a slice.
use Rattle.std.proofs.Common.{◌≡◌, ℕ, zero, suc, ◌+◌, ◌-◌, ◌*◌, ◌/◌, ◌<◌, ◌≤◌, inl, inr, arith}
use Rattle.std.proofs.Math.Nat.{lt_of_mul-lt-mul_right}
use Rattle.std.proofs.lemmas.Grind.{div_ceil_times}
use Rattle.std.proofs.lemmas.Nat.{div-add-mod'}
use Rattle.directory_core.specs.Limits.{growth_limit}
use Rattle.vault_core.specs.declared.fault.VaultFault.{VaultFault}
use Rattle.vault_core.specs.declared.fault.VaultFault.TheVariants.{Pen, Unsettled, WrongPhase}
use Rattle.vault_core.specs.Sharing.{IsShareFault, IsTooLarge}
use Rattle.vault_core.specs.Vault.{VaultOf}
use Rattle.crew_core.specs.Crewing.{counts_to, crew_room}
use Rattle.load_core.specs.Dealt.{count_for, slice_limit}

-- each grower is dealt as many growths as a share of them has at most
few_for : (n growers each grower : ℕ) → 0 < growers → n ≤ each * growers → count_for n growers grower ≤ each
few_for n growers each grower some within =
    let above = (div_ceil_times (n - grower) growers some).1 in
    let e : (each + 1) * growers ≡ each * growers + growers = omega arith in
    let less : count_for n growers grower < each + 1 = lt_of_mul-lt-mul_right growers (omega (arith, above, e, within)) in
    omega (arith, less)

-- and all of them together no more than that often
few_together : (n growers each : ℕ) → 0 < growers → n ≤ each * growers → (m : ℕ) → counts_to (count_for n growers) m ≤ m * each
few_together n growers each some within zero = omega arith
few_together n growers each some within (suc m) =
    let e : suc m * each ≡ m * each + each = omega arith in
    omega (arith, e, few_together n growers each some within m, few_for n growers each m some within)

slice_within : (growers : ℕ) → slice_limit growers ≤ growth_limit
slice_within growers = omega (arith, div-add-mod' growth_limit growers)

pub slice_room : (n growers : ℕ) → n ≤ slice_limit growers → crew_room (count_for n growers) growers ≤ growth_limit
slice_room n zero within = omega arith
slice_room n (suc more) within =
    let each = growth_limit / suc more in
    let all = few_together n (suc more) each (omega arith) within (suc more) in
    let e : suc more * each ≡ each * suc more = omega arith in
    omega (arith, all, e, slice_within (suc more))

-- where no phase of such a room is begun, none of any other is
pub any_room : {R D : Type 0} (v : VaultOf R D) (room growers : ℕ) (fault : VaultFault) → 0 < room → room ≤ growth_limit → IsShareFault v room growers fault → IsShareFault v 1 growers fault
any_room v room growers (Pen fault) some within (inl first) = inl first
any_room v room growers (Pen fault) some within (inr (ready, inl (too_large, why))) = inr (ready, inl (too_large, by_seats why))
  where
    by_seats : IsTooLarge room growers → IsTooLarge 1 growers
    by_seats (inl none) = absurd (omega (arith, none, some))
    by_seats (inr (inl past)) = absurd (omega (arith, past, within))
    by_seats (inr (inr wrong)) = inr (inr wrong)
any_room v room growers (Pen fault) some within (inr (ready, inr (memory, may))) = inr (ready, inr (memory, record { room_in = (omega arith, omega arith); seats_in = may.seats_in }))
any_room v room growers (Unsettled number) some within refused = absurd refused
any_room v room growers WrongPhase some within refused = absurd refused
