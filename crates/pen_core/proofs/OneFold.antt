-- What a fold writes is determined: the greatest runs of the positions that are covered are the only ones.
use Rattle.std.proofs.Common.{◌≡◌, ℕ, ◌+◌, ◌-◌, ◌*◌, ◌≤◌, ◌<◌, Bool, true, false, ◌||◌, List, [], ◌∷◌, map, All, Option, Some, refl, sym, ap, subst, ◌∙◌, arith, inl, inr}
use Rattle.std.proofs.lemmas.Bool.{cases_order, or_cases, or_left, false_from_ne_true, false≢true}
use Rattle.std.proofs.lemmas.List.Elements.{All-head, All-tail}
use Rattle.segment_core.specs.declared.format.Shape.{Shape}
use Rattle.segment_core.specs.declared.found.Home.{Home}
use Rattle.segment_core.specs.Frame.{Frame}
use Rattle.segment_core.specs.Raw.{raw}
use Rattle.segment_core.specs.Tally.{tally_of}
use Rattle.segment_core.specs.Vector.{home_of}
use Rattle.pen_core.specs.Covered.{has, covers}
use Rattle.pen_core.specs.Folds.{IsWholeFold}
use Rattle.pen_core.specs.HomeRuns.{home_span, IsHomeRun, AreAscending, IsApartFrom, AreGreatest}
use Rattle.pen_core.specs.PenOf.{HomeWrite}
use Rattle.pen_core.specs.Values.{writes_for}
use Rattle.pen_core.proofs.Covers.{has-true, true-has}

module _ (width : ℕ) (home : ℕ → Option ℕ) where
  abbrev Is : Home → Type 0
  Is = IsHomeRun width home

  abbrev covered : ℕ → List Home → Bool
  covered i runs = covers i (map home_span runs)

  covered_from : (from to i : ℕ) (runs : List Home) → AreAscending from to runs → All Is runs → covered i runs ≡ true → from ≤ i
  covered_from from to i [] ascend each is = absurd cc
  covered_from from to i (run ∷ runs) ascend each is = elim (or_cases (has i (home_span run)) (covered i runs) is) [
    | inl here ↦ (let b = has-true i run.position run.count here in omega (arith, ascend.0))
    | inr later ↦ (let rest = covered_from (run.position + run.count) to i runs ascend.1 (All-tail Is run runs each) later in omega (arith, ascend.0))
  ]

  first_is_covered : (run : Home) (runs : List Home) → Is run → covered run.position (run ∷ runs) ≡ true
  first_is_covered run runs is =
      or_left (has run.position (home_span run)) (covered run.position runs)
      (true-has run.position run.position run.count (omega arith) (omega (arith, is.some)))

  -- where the first position behind a run is covered by those behind it, and its home bytes are adjacent, it fills a write
  fills : (to p : ℕ) (run : Home) (runs : List Home) → AreAscending p to runs → All Is runs → covered p runs ≡ true
      → p ≡ run.position + run.count → home p ≡ Some (run.place + run.count * width) → IsApartFrom width run runs
      → run.count ≡ 4096
  fills to p run [] ascend each is behind at apart = absurd cc
  fills to p run (next ∷ runs) ascend each is behind at apart =
      let first = All-head Is next runs each in
      let begins : next.position ≤ p = elim (or_cases (has p (home_span next)) (covered p runs) is) [
        | inl here ↦ (has-true p next.position next.count here).0
        | inr later ↦ (let rest = covered_from (next.position + next.count) to p runs ascend.1 (All-tail Is next runs each) later in omega arith)
      ] in
      let there = first.adjacent p begins (omega (arith, first.some, ascend.0)) in
      let none : (p - next.position) * width ≡ 0 * width = ap (λ n. n * width) (omega (arith, ascend.0)) in
      let same : Some (run.place + run.count * width) ≡ Some (next.place + (p - next.position) * width) = sym at ∙ there in
      let place : run.place + run.count * width ≡ next.place + (p - next.position) * width = cc in
      apart (omega (arith, ascend.0), omega arith)

  -- and so none that begins at the same place is longer
  no_longer : (to : ℕ) (run other : Home) (runs others : List Home) → run.position ≡ other.position → run.place ≡ other.place
      → AreAscending (run.position + run.count) to runs → All Is (run ∷ runs) → Is other → IsApartFrom width run runs
      → ((i : ℕ) → run.position ≤ i → covered i (run ∷ runs) ≡ covered i (other ∷ others)) → run.count < other.count → ⊥
  no_longer to run other runs others position place ascend each is apart same less =
      let p : ℕ = run.position + run.count in
      let there : covered p (run ∷ runs) ≡ true =
      same p (omega arith)
      ∙ or_left (has p (home_span other)) (covered p others)
      (true-has p other.position other.count (omega arith) (omega arith)) in
      let behind : covered p runs ≡ true = elim (or_cases (has p (home_span run)) (covered p runs) there) [
        | inl here ↦ (let b = has-true p run.position run.count here in absurd (omega (arith, b.1)))
        | inr later ↦ later
      ] in
      let count : p - other.position ≡ run.count = omega arith in
      let at : home p ≡ Some (run.place + run.count * width) =
      is.adjacent p (omega arith) (omega arith) ∙ ap (λ n. Some (other.place + n * width)) count
      ∙ ap (λ q. Some (q + run.count * width)) (sym place) in
      let full = fills to p run runs ascend (All-tail Is run runs each) behind refl at apart in
      omega (arith, is.few)

  at_first : (run : Home) → Is run → home run.position ≡ Some run.place
  at_first run is =
      let none : run.position - run.position ≡ 0 = omega arith in
      let here : run.place + 0 * width ≡ run.place = omega arith in
      is.adjacent run.position (omega arith) (omega (arith, is.some)) ∙ ap (λ n. Some (run.place + n * width)) none ∙ ap Some here

  not_in : (run : Home) (i : ℕ) → run.position + run.count ≤ i → has i (home_span run) ≡ false
  not_in run i le = false_from_ne_true (has i (home_span run)) (λ e. let b = has-true i run.position run.count e in omega (arith, b.1))

  one_list : (from to : ℕ) (xs ys : List Home) → AreAscending from to xs → AreAscending from to ys → All Is xs → All Is ys
      → AreGreatest width xs → AreGreatest width ys → ((i : ℕ) → from ≤ i → covered i xs ≡ covered i ys) → xs ≡ ys
  one_list from to [] [] ascend others each all greatest most same = refl
  one_list from to [] (y ∷ ys) ascend others each all greatest most same =
      absurd (false≢true (same y.position others.0 ∙ first_is_covered y ys (All-head Is y ys all)))
  one_list from to (x ∷ xs) [] ascend others each all greatest most same =
      absurd (false≢true (sym (same x.position ascend.0) ∙ first_is_covered x xs (All-head Is x xs each)))
  one_list from to (x ∷ xs) (y ∷ ys) ascend others each all greatest most same =
      let first = All-head Is x xs each in
      let other = All-head Is y ys all in
      let least = covered_from x.position to y.position (x ∷ xs) (omega arith, ascend.1) each (same y.position others.0 ∙ first_is_covered y ys other) in
      let most_too =
      covered_from y.position to x.position (y ∷ ys) (omega arith, others.1) all
      (sym (same x.position ascend.0) ∙ first_is_covered x xs first) in
      let position : x.position ≡ y.position = omega arith in
      let told : Some x.place ≡ Some y.place = sym (at_first x first) ∙ ap home position ∙ at_first y other in
      let place : x.place ≡ y.place = cc in
      let count : x.count ≡ y.count = elim (cases_order x.count y.count) [
        | inl is ↦ is
        | inr (inl less) ↦ absurd (no_longer to x y xs ys position place ascend.1 each other greatest.0 (λ i le. same i (omega (arith, ascend.0))) less)
        | inr (inr more) ↦ absurd
            (no_longer to y x ys xs (sym position) (sym place) others.1 all first most.0
            (λ i le. sym (same i (omega (arith, others.0)))) more)
      ] in
      let run : x ≡ y =
      ap (λ n. record { position = n; place = x.place; count = x.count }) position
      ∙ ap (λ n. record { position = y.position; place = n; count = x.count }) place
      ∙ ap (λ n. record { position = y.position; place = y.place; count = n }) count in
      let end : y.position + y.count ≡ x.position + x.count = omega arith in
      let rest =
      one_list (x.position + x.count) to xs ys ascend.1 (subst (λ n. AreAscending n to ys) end others.1)
      (All-tail Is x xs each) (All-tail Is y ys all) greatest.1 most.1 (λ i le.
      ap (λ b. b || covered i xs) (sym (not_in x i le)) ∙ same i (omega (arith, ascend.0)) ∙ ap (λ b. b || covered i ys) (not_in y i (omega arith))) in
      ap (λ r. r ∷ xs) run ∙ ap (λ rs. y ∷ rs) rest

pub IsWholeFold_one : (shape : Shape) (frames : List Frame) (vector : List (List ℕ)) (left others : List HomeWrite)
    → IsWholeFold shape frames vector left → IsWholeFold shape frames vector others → left ≡ others
IsWholeFold_one shape frames vector left others whole again =
    whole.writes_are
    ∙ ap (writes_for (raw shape.width) vector)
    (one_list shape.width (home_of shape frames) 0 (tally_of frames).size whole.runs again.runs whole.runs_are.ascend
    again.runs_are.ascend whole.runs_are.each again.runs_are.each whole.runs_are.greatest again.runs_are.greatest
    (λ i le. whole.covered i ∙ sym (again.covered i)))
    ∙ sym again.writes_are
