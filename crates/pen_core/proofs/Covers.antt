-- Positions that runs cover: a run more, two runs joined, and a run behind those that stand apart.
use Rattle.std.proofs.Common.{◌≡◌, inl, inr, ℕ, ◌+◌, ◌-◌, ◌≤◌, ◌<◌, ◌^◌, Bool, true, false, ◌||◌, max, subst, List, [], ◌∷◌, ◌++◌, length, take, get_or, refl, sym, ap, ◌∙◌, arith, All}
use Rattle.std.specs.Prelude.{nat_le, nat_lt}
use Rattle.std.specs.List.{AllByRecursion}
use Rattle.std.proofs.lemmas.Bool.{cases_lt, false≢true, and_parts, and_from, or_cases, or_left, or_right, leb-true, ltb-true, le-leb, lt-ltb, false_from_ne_true}
use Rattle.std.proofs.lemmas.List.Folds.{list_any-append, list_any_more}
use Rattle.std.proofs.Math.Nat.{max-eq_left, max-eq_right}
use Rattle.std.proofs.lemmas.List.{length-append, take_all}
use Rattle.std.proofs.lemmas.List.Sorted.{list_any-IsPermutation}
use Rattle.std.proofs.lemmas.List.Elements.{All-get_or}
use Rattle.std.specs.List.Sorted.{IsPermutation, IsNonDecreasingBy}
use Rattle.pen_core.specs.Covered.{has, covers, StandApart, IsCover}

-- tests that hold in the same cases are the same
same_test : (a b : Bool) → (a ≡ true → b ≡ true) → (b ≡ true → a ≡ true) → a ≡ b
same_test true b to from = sym (to refl)
same_test false b to from = sym (false_from_ne_true b (λ e. false≢true (from e)))

pub has-true : (i start count : ℕ) → has i (start, count) ≡ true → (start ≤ i) × (i < start + count)
has-true i start count e =
    let both = and_parts (nat_le start i) (nat_lt i (start + count)) e in
    (leb-true start i both.0, ltb-true i (start + count) both.1)

pub true-has : (i start count : ℕ) → start ≤ i → i < start + count → has i (start, count) ≡ true
true-has i start count from to = and_from (nat_le start i) (nat_lt i (start + count)) (le-leb start i from) (lt-ltb i (start + count) to)

-- a run, and one that begins in it or right behind it and ends further, are one run
pub has-longer : (i start end next count : ℕ) → start ≤ next → next ≤ end → end ≤ next + count
    → (has i (start, end - start) || has i (next, count)) ≡ has i (start, next + count - start)
has-longer i start end next count after touches further =
    same_test (has i (start, end - start) || has i (next, count)) (has i (start, next + count - start))
    (λ e. elim (or_cases (has i (start, end - start)) (has i (next, count)) e) [
      | inl h ↦ let b = has-true i start (end - start) h in true-has i start (next + count - start) b.0 (omega arith)
      | inr h ↦ let b = has-true i next count h in true-has i start (next + count - start) (omega arith) (omega arith)
    ]) (λ e. let b = has-true i start (next + count - start) e in elim (cases_lt i end) [
      | inl lt ↦ or_left (has i (start, end - start)) (has i (next, count)) (true-has i start (end - start) b.0 (omega arith))
      | inr ge ↦ or_right (has i (start, end - start)) (has i (next, count)) (true-has i next count (omega arith) (omega arith))
    ])

-- a run that ends inside another that began before it adds nothing
pub has-inner : (i start end next count : ℕ) → start ≤ next → next + count ≤ end
    → (has i (start, end - start) || has i (next, count)) ≡ has i (start, end - start)
has-inner i start end next count after inside =
    same_test (has i (start, end - start) || has i (next, count)) (has i (start, end - start))
    (λ e. elim (or_cases (has i (start, end - start)) (has i (next, count)) e) [
      | inl h ↦ h
      | inr h ↦ let b = has-true i next count h in true-has i start (end - start) (omega arith) (omega arith)
    ]) (λ e. or_left (has i (start, end - start)) (has i (next, count)) e)

or_false : (b : Bool) → (b || false) ≡ b
or_false true = refl
or_false false = refl

or_assoc : (a b c : Bool) → ((a || b) || c) ≡ (a || (b || c))
or_assoc true b c = refl
or_assoc false b c = refl

-- one run more
pub covers-push : (i : ℕ) (runs : List (ℕ × ℕ)) (run : ℕ × ℕ) → covers i (runs ++ run ∷ []) ≡ (covers i runs || has i run)
covers-push i runs run = list_any-append (has i) runs (run ∷ []) ∙ ap (λ b. covers i runs || b) (or_false (has i run))

-- each run ends before this place
abbrev pub EndBefore : ℕ → List (ℕ × ℕ) → Type 0
EndBefore place runs = AllByRecursion (λ run. run.0 + run.1 < place) runs

pub EndBefore-push : (place later : ℕ) (runs : List (ℕ × ℕ)) (run : ℕ × ℕ) → place ≤ later → EndBefore place runs
    → run.0 + run.1 < later → EndBefore later (runs ++ run ∷ [])
EndBefore-push place later [] run le before lt = (lt, tt)
EndBefore-push place later (first ∷ runs) run le before lt = (omega (arith, before.0), EndBefore-push place later runs run le before.1 lt)

-- a run behind a gap behind those that stand apart
pub StandApart-push : (from start count : ℕ) (runs : List (ℕ × ℕ)) → StandApart from runs → EndBefore start runs
    → from ≤ start → 0 < count → StandApart from (runs ++ (start, count) ∷ [])
StandApart-push from start count [] apart before le some = (le, some, tt)
StandApart-push from start count (first ∷ runs) apart before le some = (
  apart.0,
  apart.1,
  StandApart-push (first.0 + first.1 + 1) start count runs apart.2 before.1 (omega (arith, before.0)) some,
)

-- runs that were sorted: none begins before an earlier one, each has a position, and none ends too late
pub record AreSorted (runs : List (ℕ × ℕ)) : Type 0 where
  pub ascend : (i j : ℕ) → i ≤ j → j < length runs → (get_or runs i (0, 0)).0 ≤ (get_or runs j (0, 0)).0
  pub some : (j : ℕ) → j < length runs → 0 < (get_or runs j (0, 0)).1
  pub inside : (j : ℕ) → j < length runs → (get_or runs j (0, 0)).0 + (get_or runs j (0, 0)).1 ≤ 2 ^ 32

-- the sweep after k runs: what they cover but for the last piece, and that piece
pub record IsSwept (runs : List (ℕ × ℕ)) (k start end : ℕ) (cover : List (ℕ × ℕ)) : Type 0 where
  pub same : (i : ℕ) → (covers i cover || has i (start, end - start)) ≡ covers i (take k runs)
  pub apart : StandApart 0 cover
  pub before : EndBefore start cover
  pub some : start < end
  pub inside : end ≤ 2 ^ 32
  pub behind : (j : ℕ) → k ≤ j → j < length runs → start ≤ (get_or runs j (0, 0)).0
  pub fewer : length cover < k

pub swept-first : (runs : List (ℕ × ℕ)) → AreSorted runs → 0 < length runs
    → IsSwept runs 1 (get_or runs 0 (0, 0)).0 ((get_or runs 0 (0, 0)).0 + (get_or runs 0 (0, 0)).1) []
swept-first runs sorted lt =
    let run = get_or runs 0 (0, 0) in
    let count : run.0 + run.1 - run.0 ≡ run.1 = omega arith in
    record {
      same = λ i. ap (λ n. has i (run.0, n)) count ∙ sym (list_any_more (has i) runs 0 (0, 0) lt);
      apart = tt;
      before = tt;
      some = omega (arith, sorted.some 0 lt);
      inside = sorted.inside 0 lt;
      behind = λ j le in_runs. sorted.ascend 0 j (omega arith) in_runs;
      fewer = omega arith;
    }

module _ (runs : List (ℕ × ℕ)) (k start end : ℕ) (cover : List (ℕ × ℕ)) (sorted : AreSorted runs) (lt : k < length runs)
    (swept : IsSwept runs k start end cover) where
  abbrev run : ℕ × ℕ
  run = get_or runs k (0, 0)

  -- the next run begins behind a gap
  pub swept-gap : end < run.0 → IsSwept runs (k + 1) run.0 (run.0 + run.1) (cover ++ (start, end - start) ∷ [])
  swept-gap gap =
      let count : run.0 + run.1 - run.0 ≡ run.1 = omega arith in
      record {
        same = λ i. ap (λ n. covers i (cover ++ (start, end - start) ∷ []) || has i (run.0, n)) count
            ∙ ap (λ b. b || has i run) (covers-push i cover (start, end - start) ∙ swept.same i)
            ∙ sym (list_any_more (has i) runs k (0, 0) lt);
        apart = StandApart-push 0 start (end - start) cover swept.apart swept.before (omega arith) (omega (arith, swept.some));
        before = EndBefore-push start run.0 cover (start, end - start) (omega (arith, swept.some)) swept.before (omega (arith, swept.some));
        some = omega (arith, sorted.some k lt);
        inside = sorted.inside k lt;
        behind = λ j le in_runs. sorted.ascend k j (omega arith) in_runs;
        fewer = omega (arith, swept.fewer, length-append cover ((start, end - start) ∷ []));
      }

  -- the next run makes the last piece longer
  pub swept-longer : run.0 ≤ end → end ≤ run.0 + run.1 → IsSwept runs (k + 1) start (run.0 + run.1) cover
  swept-longer touches further =
      let after = swept.behind k (omega arith) lt in
      record {
        same = λ i. ap (λ b. covers i cover || b) (sym (has-longer i start end run.0 run.1 after touches further))
            ∙ sym (or_assoc (covers i cover) (has i (start, end - start)) (has i run))
            ∙ ap (λ b. b || has i run) (swept.same i)
            ∙ sym (list_any_more (has i) runs k (0, 0) lt);
        apart = swept.apart;
        before = swept.before;
        some = omega (arith, swept.some);
        inside = sorted.inside k lt;
        behind = λ j le in_runs. swept.behind j (omega arith) in_runs;
        fewer = omega (arith, swept.fewer);
      }

  -- the next run lies in the last piece
  pub swept-inner : run.0 + run.1 ≤ end → IsSwept runs (k + 1) start end cover
  swept-inner inside =
      let after = swept.behind k (omega arith) lt in
      record {
        same = λ i. ap (λ b. covers i cover || b) (sym (has-inner i start end run.0 run.1 after inside))
            ∙ sym (or_assoc (covers i cover) (has i (start, end - start)) (has i run))
            ∙ ap (λ b. b || has i run) (swept.same i)
            ∙ sym (list_any_more (has i) runs k (0, 0) lt);
        apart = swept.apart;
        before = swept.before;
        some = swept.some;
        inside = swept.inside;
        behind = λ j le in_runs. swept.behind j (omega arith) in_runs;
        fewer = omega (arith, swept.fewer);
      }

  -- the next run doesn't begin behind a gap: the last piece ends where the later of the two does
  pub swept-joined : run.0 ≤ end → IsSwept runs (k + 1) start (max end (run.0 + run.1)) cover
  swept-joined touches = elim (cases_lt end (run.0 + run.1)) [
    | inl lt ↦ subst (λ e. IsSwept runs (k + 1) start e cover) (sym (max-eq_right (omega arith))) (swept-longer touches (omega arith))
    | inr ge ↦ subst (λ e. IsSwept runs (k + 1) start e cover) (sym (max-eq_left ge)) (swept-inner ge)
  ]

-- at the end the last piece stands behind the others
pub swept-all : (runs : List (ℕ × ℕ)) (k start end : ℕ) (cover : List (ℕ × ℕ)) → length runs ≤ k
    → IsSwept runs k start end cover → IsCover runs (cover ++ (start, end - start) ∷ [])
swept-all runs k start end cover all swept = record {
  same = λ i. covers-push i cover (start, end - start) ∙ swept.same i ∙ ap (covers i) (take_all k runs all);
  apart = StandApart-push 0 start (end - start) cover swept.apart swept.before (omega arith) (omega (arith, swept.some));
}

pub IsCover-moved : (given runs cover : List (ℕ × ℕ)) → IsPermutation given runs → IsCover runs cover → IsCover given cover
IsCover-moved given runs cover moved is = record {
  same = λ i. is.same i ∙ sym (list_any-IsPermutation (has i) given runs moved);
  apart = is.apart;
}

pub AreSorted-from : (runs : List (ℕ × ℕ)) → All (λ run. 0 < run.1) runs → All (λ run. run.0 + run.1 ≤ 2 ^ 32) runs
    → IsNonDecreasingBy (λ run. run.0) runs → AreSorted runs
AreSorted-from runs some inside ascend = record {
  ascend = λ i j le lt. ascend i j (0, 0) le lt;
  some = λ j lt. All-get_or (λ run. 0 < run.1) runs j (0, 0) lt some;
  inside = λ j lt. All-get_or (λ run. run.0 + run.1 ≤ 2 ^ 32) runs j (0, 0) lt inside;
}
