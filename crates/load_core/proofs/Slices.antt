-- Growths that are dealt slice by slice.
use Rattle.std.proofs.Common.{◌≡◌, ℕ, ◌+◌, ◌-◌, ◌*◌, ◌<◌, ◌≤◌, min, List, [], length, drop, get_or, slice_get, Some, sym, ap, ◌∙◌, arith}
use Rattle.std.proofs.Math.Nat.{mul-le-mul_right}
use Rattle.std.proofs.lemmas.Grind.{div_ceil_times}
use Rattle.std.proofs.lemmas.List.{get_or-drop, get_or-take, length-drop, length-take}
use Rattle.std.proofs.lemmas.Option.{get_or_from_slice_get}
use Rattle.load_core.specs.Loading.{IsSlice}
use Rattle.load_core.specs.Dealt.{count_for, dealt, slice_limit, slice_of}

-- a grower's growth is one of those that are dealt
within_slice : (n growers grower k : ℕ) → grower < growers → k < count_for n growers grower → k * growers + grower < n
within_slice n growers grower k inside few =
    let above = (div_ceil_times (n - grower) growers (omega (arith, inside))).1 in
    let next : (k + 1) * growers ≤ count_for n growers grower * growers = mul-le-mul_right growers (omega (arith, few)) in
    let e : (k + 1) * growers ≡ k * growers + growers = omega arith in
    omega (arith, above, next, e)

pub slice_fits : {R : Type 0} (growers : ℕ) (growths : List (List R)) → IsSlice growers (slice_of growers growths)
slice_fits growers growths = omega (arith, length-take (slice_limit growers) growths)

module _ {R : Type 0} (growths : List (List R)) (from growers : ℕ) where
  length_in_hand : length (slice_of growers (drop from growths)) ≡ min (slice_limit growers) (length growths - from)
  length_in_hand = length-take (slice_limit growers) (drop from growths) ∙ ap (λ n. min (slice_limit growers) n) (length-drop from growths)

  -- one of the slice in hand
  module _ (grower k : ℕ) (inside : grower < growers) (few : k < count_for (length (slice_of growers (drop from growths))) growers grower) where
    within : k * growers + grower < min (slice_limit growers) (length growths - from)
    within = omega (arith, within_slice (length (slice_of growers (drop from growths))) growers grower k inside few, length_in_hand)

    pub growth_there : from + (k * growers + grower) < length growths
    growth_there = omega (arith, within)

    pub growth_is : (place : ℕ) (records : List R) → place ≡ from + (k * growers + grower) → slice_get growths place ≡ Some records
        → records ≡ dealt (slice_of growers (drop from growths)) growers grower k
    growth_is place records is at =
        sym (
        get_or-take (slice_limit growers) (drop from growths) (k * growers + grower) [] (omega (arith, within))
        ∙ get_or-drop from growths (k * growers + grower) []
        ∙ ap (λ n. get_or growths n []) (sym is)
        ∙ get_or_from_slice_get growths place records [] at
        )
