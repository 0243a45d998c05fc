-- What is told of a window, on the smallest examples, and what its definitions rule out.
use Rattle.std.proofs.Common.{ℕ, zero, suc, List, [], ◌∷◌, Option, refl, arith}
use Rattle.segment_core.specs.Found.{home_among}
use Rattle.pen_core.specs.Window.{AreLaidOver, AreCellsFrom}

-- records of one byte: 5 and 6 stand at 1 and 2, and 7 at 4, where a live change of position 1 has its record
abbrev bytes : List ℕ
bytes = 0 ∷ 5 ∷ 6 ∷ 0 ∷ 7 ∷ []

abbrev says : ℕ → Option ℕ
says = home_among 1 (record { position = 0; place = 1; count = 2 } ∷ record { position = 1; place = 4; count = 1 } ∷ [])

laid_over : AreLaidOver 1 0 2 bytes says (0 ∷ 0 ∷ []) (5 ∷ 7 ∷ [])
laid_over zero lt = refl
laid_over (suc zero) lt = refl
laid_over (suc (suc i)) lt = absurd (omega arith)

-- the change isn't forgotten
not_home_bytes : AreLaidOver 1 0 2 bytes says (0 ∷ 0 ∷ []) (5 ∷ 6 ∷ []) → ⊥
not_home_bytes laid = let second = laid 1 (omega arith) in absurd cc

-- and of which nothing is told, that stays
stays : AreLaidOver 1 5 1 bytes says (9 ∷ []) (9 ∷ [])
stays zero lt = refl
stays (suc i) lt = absurd (omega arith)

not_written : AreLaidOver 1 5 1 bytes says (9 ∷ []) (8 ∷ []) → ⊥
not_written laid = let first = laid 0 (omega arith) in absurd cc

-- the window from position 1 on
second_cell : AreCellsFrom 1 1 1 ((5 ∷ []) ∷ (7 ∷ []) ∷ []) (7 ∷ [])
second_cell zero lt = refl
second_cell (suc i) lt = absurd (omega arith)

not_first_cell : AreCellsFrom 1 1 1 ((5 ∷ []) ∷ (7 ∷ []) ∷ []) (5 ∷ []) → ⊥
not_first_cell cells = let first = cells 0 (omega arith) in absurd cc
