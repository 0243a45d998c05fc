-- Worked examples: what events make of records, and the lines of steps.
use Rattle.std.proofs.Common.{◌≡◌, ℕ, List, [], ◌∷◌, ◌++◌, refl, arith}
use Rattle.std.specs.Prelude.{codes}
use Rattle.segment_core.specs.Raw.{raw}
use Rattle.follow_core.specs.declared.place.Place.{Place}
use Rattle.follow_core.specs.Event.{Put, Set, Cut, IsApplied}
use Rattle.follow_core.specs.Stepped.{step_end, step_lines}

-- 5 6 with 9 at position 1, cut to one, then 7 behind it
all_three : IsApplied (raw 1) (Set 1 (9 ∷ []) ∷ Cut 1 ∷ Put (7 ∷ []) ∷ []) ((5 ∷ []) ∷ (6 ∷ []) ∷ []) ((5 ∷ []) ∷ (7 ∷ []) ∷ [])
all_three = (omega arith, 9 ∷ [], refl, (omega arith, (7 ∷ [], refl, refl)))

-- a record is put first, and then replaced
put_then_set : IsApplied (raw 1) (Put (7 ∷ []) ∷ Set 0 (8 ∷ []) ∷ []) [] ((8 ∷ []) ∷ [])
put_then_set = (7 ∷ [], refl, (omega arith, 8 ∷ [], refl, refl))

-- none is replaced that isn't there
no_set_behind : (new : List (List ℕ)) → IsApplied (raw 1) (Set 0 (8 ∷ []) ∷ Put (7 ∷ []) ∷ []) [] new → ⊥
no_set_behind new is = absurd (omega (arith, is.0))

no_empty_cut : (new : List (List ℕ)) → IsApplied (raw 1) (Cut 0 ∷ []) [] new → ⊥
no_empty_cut new is = absurd (omega (arith, is.0))

-- the lines of a step, where the text of a record is its bytes
a_step : (place : Place) → step_lines (λ r. r) (Put (65 ∷ []) ∷ Put (66 ∷ []) ∷ []) place ≡ codes "+ A" ++ (10 ∷ (codes "+ B" ++ (10 ∷ step_end place)))
a_step place = refl

nothing_came : (place : Place) → step_lines (λ (r : List ℕ). r) [] place ≡ []
nothing_came place = refl
