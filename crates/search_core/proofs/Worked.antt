-- Worked searches.
use Rattle.std.proofs.Common.{ℕ, Bool, [], ◌∷◌, Some, None, refl, arith}
use Rattle.std.specs.Prelude.{nat_eq}
use Rattle.search_core.specs.Search.{IsFirst}

abbrev fours : ℕ → Bool
fours r = nat_eq r 4

first_four : IsFirst fours (1 ∷ 4 ∷ 4 ∷ []) (Some 1)
first_four = (refl, refl)

not_the_second : IsFirst fours (1 ∷ 4 ∷ 4 ∷ []) (Some 2) → ⊥
not_the_second first = absurd (omega (arith, first.0))

not_none : IsFirst fours (1 ∷ 4 ∷ 4 ∷ []) None → ⊥
not_none none = absurd (omega (arith, none))

no_four : IsFirst fours (1 ∷ 2 ∷ []) None
no_four = refl
