-- Growths in one row of records: each begins where the one before it ends.
use Rattle.std.specs.Prelude.{ℕ, zero, suc, ◌≤◌, List, [], ◌∷◌, slice_index, slice_range}

-- the growths that begin at a place of the row, by the places where they end
abbrev pub growths_from : {R : Type 0} → ℕ → List ℕ → List R → List (List R)
growths_from start [] row = []
growths_from start (end ∷ ends) row = slice_range row start end ∷ growths_from end ends row

-- where the last of them ends
abbrev pub end_from : ℕ → List ℕ → ℕ
end_from start [] = start
end_from start (end ∷ ends) = end_from end ends

-- where growth k begins
abbrev pub start_at : ℕ → List ℕ → ℕ → ℕ
start_at start ends zero = start
start_at start ends (suc k) = slice_index ends k

-- none of them ends before it begins, or past the row
abbrev pub AreEndsFrom : ℕ → List ℕ → ℕ → Type 0
AreEndsFrom start [] len = start ≤ len
AreEndsFrom start (end ∷ ends) len = (start ≤ end) × AreEndsFrom end ends len
