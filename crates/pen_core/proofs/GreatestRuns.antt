-- Runs that are the greatest: one more behind them, and the last of them made longer.
use Rattle.std.proofs.Common.{◌≡◌, ℕ, ◌+◌, ◌-◌, ◌*◌, ◌≤◌, ◌<◌, inl, inr, List, [], ◌∷◌, ◌++◌, length, get_or, set, take, Option, Some, refl, sym, ap, subst, ◌∙◌, arith, append_assoc}
use Rattle.std.specs.List.{range_with_len}
use Rattle.std.proofs.Math.Seq.{set-append_seam}
use Rattle.std.proofs.lemmas.Bool.{cases_lt}
use Rattle.std.proofs.lemmas.List.{append-nil, take_more, take_all, length-take-le}
use Rattle.std.proofs.lemmas.List.Elements.{All-nil, All-push, All-set}
use Rattle.segment_core.specs.declared.found.Home.{Home}
use Rattle.pen_core.specs.HomeRuns.{positions_at, write_limit, IsAdjacent, IsHomeRun, AreAscending, Meets, AreGreatest, AreGreatestRuns, behind}
use Rattle.pen_core.proofs.HomeRunSteps.{range-append, positions_at-append, ascending-push, ascending-to, moved}

-- ---- the last item

last_split : {X : Type 0} (xs : List X) (d : X) → 0 < length xs → xs ≡ take (length xs - 1) xs ++ get_or xs (length xs - 1) d ∷ []
last_split xs d some =
    let all : length xs - 1 + 1 ≡ length xs = omega arith in
    sym (take_all (length xs) xs (omega arith)) ∙ ap (λ n. take n xs) (sym all) ∙ take_more xs (length xs - 1) d (omega arith)

set_last : {X : Type 0} (xs : List X) (d y : X) → 0 < length xs → set xs (length xs - 1) y ≡ take (length xs - 1) xs ++ y ∷ []
set_last xs d y some =
    let front = take (length xs - 1) xs in
    let at : length xs - 1 ≡ length front = sym (length-take-le (length xs - 1) xs (omega arith)) in
    ap (λ zs. set zs (length xs - 1) y) (last_split xs d some)
    ∙ ap (λ n. set (front ++ get_or xs (length xs - 1) d ∷ []) n y) at
    ∙ set-append_seam front (get_or xs (length xs - 1) d) [] y

-- ---- a last run made longer

abbrev pub longer : Home → ℕ → Home
longer run n = record { position = run.position; place = run.place; count = run.count + n }

positions_at-longer : (init : List Home) (last : Home) (n : ℕ)
    → positions_at (init ++ longer last n ∷ []) ≡ positions_at (init ++ last ∷ []) ++ range_with_len
    (last.position + last.count) n
positions_at-longer init last n =
    positions_at-append init (longer last n ∷ [])
    ∙ ap (λ ps. positions_at init ++ ps) (append-nil (range_with_len last.position (last.count + n)) ∙ sym (range-append last.position last.count n))
    ∙ sym (append_assoc (positions_at init) (range_with_len last.position last.count) (range_with_len (last.position + last.count) n))
    ∙ ap (λ ps. (positions_at init ++ ps) ++ range_with_len (last.position + last.count) n) (sym (append-nil (range_with_len last.position last.count)))
    ∙ ap (λ ps. ps ++ range_with_len (last.position + last.count) n) (sym (positions_at-append init (last ∷ [])))

ascending-longer : (from to : ℕ) (init : List Home) (last : Home) (n : ℕ) → AreAscending from to (init ++ last ∷ [])
    → AreAscending from (last.position + last.count + n) (init ++ longer last n ∷ [])
ascending-longer from to [] last n ascend = (ascend.0, omega arith)
ascending-longer from to (run ∷ init) last n ascend = (ascend.0, ascending-longer (run.position + run.count) to init last n ascend.1)

-- whether a run can be joined to the one before it is told by where it begins
greatest-last : (width : ℕ) (init : List Home) (a b : Home) → b.position ≡ a.position → b.place ≡ a.place
    → AreGreatest width (init ++ a ∷ []) → AreGreatest width (init ++ b ∷ [])
greatest-last width [] a b position place greatest = (tt, tt)
greatest-last width (run ∷ []) a b position place greatest = ((λ meets. greatest.0 (sym position ∙ meets.0, sym place ∙ meets.1)), (tt, tt))
greatest-last width (run ∷ next ∷ init) a b position place greatest = (greatest.0, greatest-last width (next ∷ init) a b position place greatest.1)

-- one behind the last, that can't be joined to it
greatest-next : (width : ℕ) (init : List Home) (last next : Home) → AreGreatest width (init ++ last ∷ [])
    → (Meets width last next → last.count ≡ write_limit) → AreGreatest width ((init ++ last ∷ []) ++ next ∷ [])
greatest-next width [] last next greatest apart = (apart, (tt, tt))
greatest-next width (run ∷ []) last next greatest apart = (greatest.0, (apart, (tt, tt)))
greatest-next width (run ∷ other ∷ init) last next greatest apart = (greatest.0, greatest-next width (other ∷ init) last next greatest.1 apart)

IsHomeRun-longer : (width : ℕ) (home : ℕ → Option ℕ) (run part : Home) (n : ℕ) → IsHomeRun width home run
    → IsAdjacent width home part → Meets width run part → n ≤ part.count → run.count + n ≤ 4096
    → IsHomeRun width home (longer run n)
IsHomeRun-longer width home run part n is adjacent meets some few = record {
  some = omega (arith, is.some);
  few = few;
  adjacent = λ i from to. elim (cases_lt i (run.position + run.count)) [
    | inl before ↦ is.adjacent i from before
    | inr in_part ↦ (
        let here : run.count + (i - part.position) ≡ i - run.position = omega (arith, meets.0) in
        adjacent i (omega (arith, meets.0)) (omega (arith, meets.0))
        ∙ ap (λ p. Some (p + (i - part.position) * width)) meets.1
        ∙ ap Some (moved run.place run.count (i - part.position) width ∙ ap (λ k. run.place + k * width) here))
  ];
}

module _ (width : ℕ) (runs : List Home) (last : Home) (some : 0 < length runs) (is : last ≡ get_or runs (length runs - 1) last) where
  abbrev init : List Home
  init = take (length runs - 1) runs

  were : runs ≡ init ++ last ∷ []
  were = last_split runs last some ∙ ap (λ run. init ++ run ∷ []) (sym is)

  -- what comes next can't be joined to it, which stays as it was
  pub apart_next : (next : Home) → AreGreatest width runs → (Meets width last next → ⊥)
      → AreGreatest width (set runs (length runs - 1) last ++ next ∷ [])
  apart_next next greatest apart =
      subst (λ rs. AreGreatest width (rs ++ next ∷ [])) (sym (set_last runs last last some))
      (greatest-next width init last next (subst (AreGreatest width) were greatest) (λ meets. absurd (apart meets)))

  module _ (n : ℕ) where
    abbrev grown : List Home
    grown = set runs (length runs - 1) (longer last n)

    are : grown ≡ init ++ longer last n ∷ []
    are = set_last runs last (longer last n) some

    pub longer_positions : positions_at grown ≡ positions_at runs ++ range_with_len (last.position + last.count) n
    longer_positions =
        ap positions_at are ∙ positions_at-longer init last n
        ∙ ap (λ rs. positions_at rs ++ range_with_len (last.position + last.count) n) (sym were)

    longer_greatest : AreGreatest width runs → AreGreatest width (init ++ longer last n ∷ [])
    longer_greatest greatest = greatest-last width init last (longer last n) refl refl (subst (AreGreatest width) were greatest)

    pub longer_runs : (home : ℕ → Option ℕ) (to : ℕ) (part : Home) → IsAdjacent width home part → Meets width last part
        → n ≤ part.count → last.count + n ≤ 4096 → AreGreatestRuns width home to runs
        → AreGreatestRuns width home (last.position + last.count + n) grown
    longer_runs home to part adjacent meets fits few so_far =
        let each = subst (IsHomeRun width home) (sym is) (so_far.each (length runs - 1) last (omega arith)) in
        record {
          ascend =
              subst (AreAscending 0 (last.position + last.count + n)) (sym are)
              (ascending-longer 0 to init last n (subst (AreAscending 0 to) were so_far.ascend));
          each =
              All-set (IsHomeRun width home) runs (length runs - 1) (longer last n)
              (IsHomeRun-longer width home last part n each adjacent meets fits few) so_far.each;
          greatest = subst (AreGreatest width) (sym are) (longer_greatest so_far.greatest);
        }

    -- where it fills a write, what is left stands behind it
    pub full_next : (next : Home) → AreGreatest width runs → last.count + n ≡ 4096 → AreGreatest width (grown ++ next ∷ [])
    full_next next greatest full =
        subst (λ rs. AreGreatest width (rs ++ next ∷ [])) (sym are)
        (greatest-next width init (longer last n) next (longer_greatest greatest) (λ meets. full))

-- ---- a run behind the others

-- the next positions of a part, as many as one write takes
abbrev next_of : ℕ → Home → ℕ → ℕ → Home
next_of width part done count = record { position = part.position + done; place = part.place + done * width; count = count }

IsHomeRun-next : (width : ℕ) (home : ℕ → Option ℕ) (part : Home) (done count : ℕ) → IsAdjacent width home part
    → done + count ≤ part.count → 0 < count → count ≤ 4096 → IsHomeRun width home (next_of width part done count)
IsHomeRun-next width home part done count adjacent fits some few = record {
  some = some;
  few = few;
  adjacent = λ i from to. (
      let here : i - part.position ≡ done + (i - (part.position + done)) = omega arith in
      adjacent i (omega arith) (omega arith)
      ∙ ap Some
      (ap (λ n. part.place + n * width) here ∙ sym (moved part.place done (i - (part.position + done)) width)));
}

module _ (width : ℕ) (part : Home) (done count : ℕ) (runs : List Home) where
  abbrev next : Home
  next = next_of width part done count

  pub next_positions : (old : List Home) → positions_at runs ≡ positions_at old ++ range_with_len part.position done
      → positions_at (runs ++ next ∷ []) ≡ positions_at old ++ range_with_len part.position (done + count)
  next_positions old so_far =
      positions_at-append runs (next ∷ [])
      ∙ ap (λ ps. positions_at runs ++ ps) (append-nil (range_with_len (part.position + done) count))
      ∙ ap (λ ps. ps ++ range_with_len (part.position + done) count) so_far
      ∙ append_assoc (positions_at old) (range_with_len part.position done) (range_with_len (part.position + done) count)
      ∙ ap (λ ps. positions_at old ++ ps) (range-append part.position done count)

  next_greatest : AreGreatest width (runs ++ behind width part done ∷ []) → AreGreatest width (runs ++ next ∷ [])
  next_greatest greatest = greatest-last width runs (behind width part done) next refl refl greatest

  pub next_runs : (home : ℕ → Option ℕ) → AreGreatestRuns width home (part.position + done) runs → IsAdjacent width home part
      → done + count ≤ part.count → 0 < count → count ≤ 4096 → AreGreatest width (runs ++ behind width part done ∷ [])
      → AreGreatestRuns width home (part.position + (done + count)) (runs ++ next ∷ [])
  next_runs home so_far adjacent fits some few greatest =
      let all : part.position + done + count ≡ part.position + (done + count) = omega arith in
      record {
        ascend = subst (λ to. AreAscending 0 to (runs ++ next ∷ [])) all (ascending-push 0 (part.position + done) runs next so_far.ascend (omega arith));
        each = All-push (IsHomeRun width home) runs next so_far.each (IsHomeRun-next width home part done count adjacent fits some few);
        greatest = next_greatest greatest;
      }

  -- where it fills a write, what is left stands behind it
  pub next_next : AreGreatest width (runs ++ behind width part done ∷ []) → count ≡ 4096
      → AreGreatest width ((runs ++ next ∷ []) ++ behind width part (done + count) ∷ [])
  next_next greatest full = greatest-next width runs next (behind width part (done + count)) (next_greatest greatest) (λ meets. full)

pub AreRuns-none : (width : ℕ) (home : ℕ → Option ℕ) → AreGreatestRuns width home 0 []
AreRuns-none width home = record { ascend = omega arith; each = All-nil (IsHomeRun width home); greatest = tt }

pub AreRuns-to : (width : ℕ) (home : ℕ → Option ℕ) (to more : ℕ) (runs : List Home) → to ≤ more → AreGreatestRuns width home to runs
    → AreGreatestRuns width home more runs
AreRuns-to width home to more runs le so_far = record { ascend = ascending-to 0 to more runs so_far.ascend le; each = so_far.each; greatest = so_far.greatest }
