-- The positions of home runs are those that the cover covers.
use Rattle.std.proofs.Common.{◌≡◌, ℕ, zero, suc, ◌+◌, ◌-◌, Bool, ◌||◌, List, [], ◌∷◌, map, refl, sym, ap, ◌∙◌, arith}
use Rattle.std.specs.List.{list_any, range_with_len}
use Rattle.std.proofs.lemmas.Bool.{false_from_ne_true}
use Rattle.std.proofs.lemmas.List.Folds.{list_any-append}
use Rattle.segment_core.specs.declared.found.Home.{Home}
use Rattle.pen_core.specs.Covered.{has, covers}
use Rattle.pen_core.specs.HomeRuns.{home_span, positions_in, positions_at, AreHomeRuns}
use Rattle.pen_core.proofs.Covers.{has-true, has-longer}

abbrev is_at : ℕ → ℕ → Bool
is_at i k = has i (k, 1)

in_range : (i from count : ℕ) → list_any (is_at i) (range_with_len from count) ≡ has i (from, count)
in_range i from zero = sym (false_from_ne_true (has i (from, 0)) (λ e. let b = has-true i from 0 e in omega (arith, b.0, b.1)))
in_range i from (suc count) =
    let one : from + 1 - from ≡ 1 = omega arith in
    let all : from + 1 + count - from ≡ suc count = omega arith in
    ap (λ b. has i (from, 1) || b) (in_range i (from + 1) count)
    ∙ ap (λ n. has i (from, n) || has i (from + 1, count)) (sym one)
    ∙ has-longer i from (from + 1) (from + 1) count (omega arith) (omega arith) (omega arith)
    ∙ ap (λ n. has i (from, n)) all

in_positions : (i : ℕ) (runs : List (ℕ × ℕ)) → list_any (is_at i) (positions_in runs) ≡ covers i runs
in_positions i [] = refl
in_positions i (run ∷ runs) =
    list_any-append (is_at i) (range_with_len run.0 run.1) (positions_in runs)
    ∙ ap (λ b. b || list_any (is_at i) (positions_in runs)) (in_range i run.0 run.1)
    ∙ ap (λ b. has i run || b) (in_positions i runs)

in_positions_at : (i : ℕ) (runs : List Home) → list_any (is_at i) (positions_at runs) ≡ covers i (map home_span runs)
in_positions_at i [] = refl
in_positions_at i (run ∷ runs) =
    list_any-append (is_at i) (range_with_len run.position run.count) (positions_at runs)
    ∙ ap (λ b. b || list_any (is_at i) (positions_at runs)) (in_range i run.position run.count)
    ∙ ap (λ b. has i (home_span run) || b) (in_positions_at i runs)

pub covers-home_runs : (width size : ℕ) (homes : List Home) (cover : List (ℕ × ℕ)) (runs : List Home) (i : ℕ)
    → AreHomeRuns width size homes cover runs → covers i (map home_span runs) ≡ covers i cover
covers-home_runs width size homes cover runs i are = sym (in_positions_at i runs) ∙ ap (list_any (is_at i)) are.positions_are ∙ in_positions i cover
