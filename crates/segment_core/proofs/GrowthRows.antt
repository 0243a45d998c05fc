-- A row of growths, as records and ends are appended to it.
use Rattle.std.proofs.Common.{◌≡◌, ◌≢◌, inl, inr, ℕ, zero, suc, ◌-◌, ◌≤◌, ◌<◌, List, [], ◌∷◌, ◌++◌, length, take, drop, get_or, Some, refl, ap, ◌∙◌, arith}
use Rattle.std.specs.Prelude.{slice_get, slice_range}
use Rattle.std.proofs.lemmas.List.{drop-append-le, take-append-le, length-drop, drop_all, take_all}
use Rattle.std.proofs.lemmas.Bool.{cases_lt}
use Rattle.segment_core.specs.Growths.{growths_from, end_from, start_at, AreEndsFrom}

pub start_within : (start : ℕ) (ends : List ℕ) (len : ℕ) → AreEndsFrom start ends len → start ≤ len
start_within start [] len are = are
start_within start (end ∷ ends) len are = let more = start_within end ends len are.1 in let here = are.0 in omega arith

pub end_within : (start : ℕ) (ends : List ℕ) (len : ℕ) → AreEndsFrom start ends len → end_from start ends ≤ len
end_within start [] len are = are
end_within start (end ∷ ends) len are = end_within end ends len are.1

pub ends_of_longer : (start : ℕ) (ends : List ℕ) (len more : ℕ) → len ≤ more → AreEndsFrom start ends len → AreEndsFrom start ends more
ends_of_longer start [] len more le are = omega arith
ends_of_longer start (end ∷ ends) len more le are = (are.0, ends_of_longer end ends len more le are.1)

-- ---- one record more

range_of_longer : {R : Type 0} (row more : List R) (start end : ℕ) → start ≤ end → end ≤ length row → slice_range (row ++ more) start end ≡ slice_range row start end
range_of_longer row more start end begins ends =
    let len = length-drop start row in
    ap (take (end - start)) (drop-append-le start row more (omega arith)) ∙ take-append-le (end - start) (drop start row) more (omega arith)

pub growths_of_longer : {R : Type 0} (start : ℕ) (ends : List ℕ) (row more : List R)
    → AreEndsFrom start ends (length row)
    → growths_from start ends (row ++ more) ≡ growths_from start ends row
growths_of_longer start [] row more are = refl
growths_of_longer {R} start (end ∷ ends) row more are =
    ap (λ (growth : List R). growth ∷ growths_from end ends (row ++ more)) (range_of_longer row more start end are.0 (start_within end ends (length row) are.1))
    ∙ ap (λ (growths : List (List R)). slice_range row start end ∷ growths) (growths_of_longer end ends row more are.1)

-- ---- one end more

pub end_push : (start : ℕ) (ends : List ℕ) (end : ℕ) → end_from start (ends ++ end ∷ []) ≡ end
end_push start [] end = refl
end_push start (first ∷ ends) end = end_push first ends end

pub ends_push : (start : ℕ) (ends : List ℕ) (len : ℕ) → AreEndsFrom start ends len → AreEndsFrom start (ends ++ len ∷ []) len
ends_push start [] len are = (are, omega arith)
ends_push start (end ∷ ends) len are = (are.0, ends_push end ends len are.1)

pub growths_push : {R : Type 0} (start : ℕ) (ends : List ℕ) (end : ℕ) (row : List R)
    → growths_from start (ends ++ end ∷ []) row ≡ growths_from start ends row ++ slice_range row (end_from start ends) end ∷ []
growths_push start [] end row = refl
growths_push {R} start (first ∷ ends) end row = ap (λ (growths : List (List R)). slice_range row start first ∷ growths) (growths_push first ends end row)

-- what has not ended yet is the last growth, once it ends
pub last_range : {R : Type 0} (row : List R) (start len : ℕ) → len ≡ length row → slice_range row start len ≡ drop start row
last_range row start len is = let rest = length-drop start row in take_all (len - start) (drop start row) (omega arith)

-- ---- where the last one ends

pub last_at : (start : ℕ) (ends : List ℕ) (n : ℕ) → length ends ≡ suc n → get_or ends n 0 ≡ end_from start ends
last_at start [] n len = absurd (omega arith)
last_at start (end ∷ []) n len = let none : n ≡ 0 = omega arith in rw none refl
last_at start (end ∷ next ∷ ends) zero len = absurd (omega arith)
last_at start (end ∷ next ∷ ends) (suc n) len = last_at end (next ∷ ends) n (omega arith)

pub some_left : {R : Type 0} (row : List R) (end : ℕ) → end < length row → drop end row ≢ []
some_left row end lt is = let len = length-drop end row in let none : length (drop end row) ≡ 0 = ap length is in omega arith

pub none_left : {R : Type 0} (row : List R) (end : ℕ) → drop end row ≢ [] → end < length row
none_left row end some = elim (cases_lt end (length row)) [ inl lt ↦ lt | inr past ↦ absurd (some (drop_all end row past)) ]

-- ---- one growth of them

pub length-growths_from : {R : Type 0} (start : ℕ) (ends : List ℕ) (row : List R) → length (growths_from start ends row) ≡ length ends
length-growths_from start [] row = refl
length-growths_from start (end ∷ ends) row = ap suc (length-growths_from end ends row)

pub growth_at : {R : Type 0} (start : ℕ) (ends : List ℕ) (row : List R) (k : ℕ)
    → k < length ends
    → slice_get (growths_from start ends row) k ≡ Some (slice_range row (start_at start ends k) (get_or ends k 0))
growth_at start [] row k lt = absurd (omega arith)
growth_at start (end ∷ ends) row zero lt = refl
growth_at start (end ∷ ends) row (suc zero) lt = growth_at end ends row zero (omega arith)
growth_at start (end ∷ ends) row (suc (suc k)) lt = growth_at end ends row (suc k) (omega arith)

pub begins_before : (start : ℕ) (ends : List ℕ) (len k : ℕ) → AreEndsFrom start ends len → k < length ends → start_at start ends k ≤ get_or ends k 0
begins_before start [] len k are lt = absurd (omega arith)
begins_before start (end ∷ ends) len zero are lt = are.0
begins_before start (end ∷ ends) len (suc zero) are lt = begins_before end ends len zero are.1 (omega arith)
begins_before start (end ∷ ends) len (suc (suc k)) are lt = begins_before end ends len (suc k) are.1 (omega arith)

pub ends_within : (start : ℕ) (ends : List ℕ) (len k : ℕ) → AreEndsFrom start ends len → k < length ends → get_or ends k 0 ≤ len
ends_within start [] len k are lt = absurd (omega arith)
ends_within start (end ∷ ends) len zero are lt = start_within end ends len are.1
ends_within start (end ∷ ends) len (suc k) are lt = ends_within end ends len k are.1 (omega arith)

pub start_behind : (start : ℕ) (ends : List ℕ) (k : ℕ) → k ≢ 0 → get_or ends (k - 1) 0 ≡ start_at start ends k
start_behind start ends zero some = absurd (some refl)
start_behind start ends (suc k) some = let n : suc k - 1 ≡ k = omega arith in ap (λ i. get_or ends i 0) n
