-- Runs that are given, one after the other.
use Rattle.std.proofs.Common.{◌≡◌, ℕ, ◌+◌, ◌≤◌, ◌<◌, Bool, true, false, ◌&&◌, List, [], ◌∷◌, length, drop, get_or, refl, ap, ◌∙◌, arith}
use Rattle.std.specs.Prelude.{nat_le, nat_lt}
use Rattle.std.specs.List.{list_all}
use Rattle.std.proofs.lemmas.List.{drop_more}
use Rattle.std.proofs.lemmas.Bool.{and_parts, leb-true}
use Rattle.segment_core.specs.Frame.{Run, records_of_runs}
use Rattle.segment_core.specs.Tally.{are_ascending, are_inside}
use Rattle.segment_core.proofs.FrameParts.{records_of_runs-cons}
use Rattle.segment_core.specs.Runs.{runs_given}

-- both tests of the runs that are left
abbrev pub well_formed : ℕ → List (ℕ × ℕ) → Bool
well_formed end runs = list_all (λ run. nat_lt 0 run.count) (runs_given runs) && are_ascending end (runs_given runs)

pub runs_left : (runs : List (ℕ × ℕ)) (k : ℕ) (d : ℕ × ℕ) → k < length runs → drop k runs ≡ get_or runs k d ∷ drop (k + 1) runs
runs_left runs k d lt = drop_more runs k d lt

pub step_formed : (end start count : ℕ) (rest : List (ℕ × ℕ)) → nat_lt 0 count ≡ true → nat_le end start ≡ true
    → well_formed end ((start, count) ∷ rest) ≡ well_formed (start + count) rest
step_formed end start count rest some behind =
    ap (λ b. (b && list_all (λ run. nat_lt 0 run.count) (runs_given rest)) && (nat_le end start && are_ascending (start + count) (runs_given rest))) some
    ∙ ap (λ b. list_all (λ run. nat_lt 0 run.count) (runs_given rest) && (b && are_ascending (start + count) (runs_given rest))) behind

and_false : (a : Bool) → (a && false) ≡ false
and_false true = refl
and_false false = refl

pub none_formed : (end start count : ℕ) (rest : List (ℕ × ℕ)) → nat_lt 0 count ≡ false → well_formed end ((start, count) ∷ rest) ≡ false
none_formed end start count rest none =
    ap
    (λ b.
    (b && list_all (λ run. nat_lt 0 run.count) (runs_given rest)) && (nat_le end start && are_ascending (start + count)
    (runs_given rest)))
    none

pub none_behind : (end start count : ℕ) (rest : List (ℕ × ℕ)) → nat_le end start ≡ false → well_formed end ((start, count) ∷ rest) ≡ false
none_behind end start count rest none =
    ap (λ b. (nat_lt 0 count && list_all (λ run. nat_lt 0 run.count) (runs_given rest)) && (b && are_ascending (start + count) (runs_given rest))) none
    ∙ and_false (nat_lt 0 count && list_all (λ run. nat_lt 0 run.count) (runs_given rest))

-- runs that stand one behind the other inside a vector have no more positions than it
pub positions_within : (end size : ℕ) (runs : List Run) → end ≤ size → are_ascending end runs ≡ true
    → are_inside size runs ≡ true → end + records_of_runs runs ≤ size
positions_within end size [] le ascending inside = omega arith
positions_within end size (run ∷ runs) le ascending inside =
    let a = and_parts (nat_le end run.start) (are_ascending (run.start + run.count) runs) ascending in
    let b = and_parts (nat_le (run.start + run.count) size) (are_inside size runs) inside in
    let from = leb-true end run.start a.0 in
    let to = leb-true (run.start + run.count) size b.0 in
    let rest = positions_within (run.start + run.count) size runs to a.1 b.1 in
    let all = records_of_runs-cons run runs in
    omega arith
