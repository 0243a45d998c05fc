-- What the definitions of growers and of told lines allow and rule out, on a few growths.
use Rattle.std.proofs.Common.{◌≡◌, ℕ, zero, suc, ◌-◌, ◌*◌, ◌^◌, min, List, [], ◌∷◌, length, get_or, refl, ap, ◌∙◌, arith}
use Rattle.block_core.specs.Growth.{Growth}
use Rattle.files_core.specs.declared.appended.Appended.{Appended}
use Rattle.load_core.specs.Appending.{AreOfBlocks}
use Rattle.load_core.specs.Dealt.{behind_slice, count_for, dealt, slice_limit, slice_of}
use Rattle.load_core.specs.Loading.{AllMade, AreDealt, AreMadeBy, AreToldPhases}

-- ---- told lines

abbrev told : ℕ → ℕ → ℕ → Appended
told growths lines size = record { growths = growths; lines = lines; size = size }

three_of_two : (growths : List (List ℕ)) → length growths ≡ 3 → (n : ℕ) → AreOfBlocks 2 (told 3 n 9) growths → n ≡ 6
three_of_two growths three n is = is ∙ ap (λ k. min (2 ^ 64 - 1) (k * 2)) three

-- ---- growers: each makes those that are dealt to it, in order

abbrev grown : ℕ → ℕ → ℕ → List ℕ → Growth ℕ
grown number start seat records = record { number = number; start = start; seat = seat; serial = 0; records = records }

abbrev three : List (List ℕ)
three = (1 ∷ []) ∷ (2 ∷ []) ∷ (3 ∷ []) ∷ []

abbrev first_of_three : List ℕ
first_of_three = 1 ∷ []

counts_of_three : (count_for 3 2 0 ≡ 2) × (count_for 3 2 1 ≡ 1) × (count_for 3 4 3 ≡ 0)
counts_of_three = (refl, refl, refl)

dealt_of_three : (dealt three 2 0 0 ≡ 1 ∷ []) × (dealt three 2 0 1 ≡ 3 ∷ []) × (dealt three 2 1 0 ≡ 2 ∷ [])
dealt_of_three = (refl, refl, refl)

-- the second grower came first
abbrev second_first : List (Growth ℕ)
second_first = grown 0 0 1 (2 ∷ []) ∷ grown 1 1 0 (1 ∷ []) ∷ grown 2 2 0 (3 ∷ []) ∷ []

all_made : AllMade three 2 second_first
all_made zero lt = refl
all_made (suc zero) lt = refl
all_made (suc (suc k)) lt = absurd (omega (arith, lt))

not_without_one : AllMade three 2 (grown 0 0 1 (2 ∷ []) ∷ grown 1 1 0 (1 ∷ []) ∷ []) → ⊥
not_without_one all = omega (arith, all 0 (omega arith))

not_the_others : AreDealt three 2 (grown 0 0 1 (1 ∷ []) ∷ []) → ⊥
not_the_others so = let is : first_of_three ≡ 2 ∷ [] = so.records_are 1 0 (grown 0 0 1 (1 ∷ [])) (omega arith) refl in omega (arith, ap (λ bs. get_or bs 0 0) is)

not_out_of_order : AreDealt three 2 (grown 0 0 0 (3 ∷ []) ∷ grown 1 1 0 (1 ∷ []) ∷ []) → ⊥
not_out_of_order so = let is : 3 ∷ [] ≡ first_of_three = so.records_are 0 0 (grown 0 0 0 (3 ∷ [])) (omega arith) refl in omega (arith, ap (λ bs. get_or bs 0 0) is)

not_by_a_third : AreDealt three 2 (grown 0 0 2 (1 ∷ []) ∷ []) → ⊥
not_by_a_third so = omega (arith, so.by_growers 0 (grown 0 0 2 first_of_three) (omega arith))

not_apart : AreDealt three 2 (grown 0 5 0 (1 ∷ []) ∷ []) → ⊥
not_apart so = omega (arith, (so.chained 0 (grown 0 5 0 first_of_three) refl).start)

-- ---- phases

-- as many of each grower, and no more than 1,048,568 together
limits : (slice_limit 1 ≡ 1048568) × (slice_limit 3 ≡ 1048566) × (slice_limit 64 ≡ 1048512)
limits = (refl, refl, refl)

-- what is fewer is one phase
abbrev first_first : List (Growth ℕ)
first_first = grown 0 0 0 (1 ∷ []) ∷ grown 1 1 0 (2 ∷ []) ∷ []

abbrev two : List (List ℕ)
two = (1 ∷ []) ∷ (2 ∷ []) ∷ []

one_phase : (slice_of 1 two ≡ two) × (behind_slice 1 two ≡ [])
one_phase = (refl, refl)

-- no phase has fewer growths than it takes
no_short_phase : AreMadeBy 1 two ((grown 0 0 0 (1 ∷ []) ∷ []) ∷ (grown 0 0 0 (2 ∷ []) ∷ []) ∷ []) [] → ⊥
no_short_phase so = omega (arith, so.1 0 (omega arith))

-- the second has none again of the first
none_again : AreMadeBy 1 two (first_first ∷ (grown 0 0 0 (1 ∷ []) ∷ []) ∷ []) [] → ⊥
none_again so = omega (arith, so.2.1 0 (omega arith))

-- the second has those behind the first
second_behind : (growths left : List (List ℕ)) (first second : List (Growth ℕ)) → AreMadeBy 3 growths (first ∷ second ∷ []) left
    → AreDealt (slice_of 3 (behind_slice 3 growths)) 3 second × (left ≡ behind_slice 3 (behind_slice 3 growths))
second_behind growths left first second so = (so.2.0, so.2.2)

-- none is left out
none_left_out : AreMadeBy 1 two [] [] → ⊥
none_left_out so = omega (arith, ap length so)

-- what is told of phases are the growths that they made, each of a line
told_of_phases : (growths left : List (List ℕ)) (phases : List (List (Growth ℕ))) (n lines size : ℕ) → length growths ≡ 9 → length left ≡ 2
    → AreToldPhases growths 1 [] phases left (told n lines size) → (n ≡ 7) × (lines ≡ 7)
told_of_phases growths left phases n lines size nine two so =
    let first = so.growths_are in let second = so.lines_are in (omega (arith, first, nine, two), omega (arith, first, second, nine, two))
