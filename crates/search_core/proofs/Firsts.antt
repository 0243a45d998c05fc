-- The first record of a list that is picked.
use Rattle.std.proofs.Common.{◌≡◌, ℕ, zero, suc, ◌+◌, ◌-◌, ◌≤◌, ◌<◌, Bool, cond, List, [], ◌∷◌, ◌++◌, length, take, drop, get_or, Bor, Option, Some, None, true, refl, sym, ap, subst, ◌∙◌, arith}
use Rattle.std.specs.Prelude.{slice_get, IsSomeAnd, MatchOption}
use Rattle.std.specs.List.{count_by}
use Rattle.std.proofs.lemmas.List.{length-append, append_assoc, take-append-le}
use Rattle.std.proofs.lemmas.List.Sums.{sum_by-append}
use Rattle.record_core.proofs.Cells.{slice_get-append_left}
use Rattle.segment_core.proofs.Replaced.{slice_get-append_right}
use Rattle.search_core.specs.Search.{records_in, IsFirst, PassesOver}
use Rattle.search_core.proofs.Counts.{take-append-past, found_within}

-- ---- slices

-- the records of slices stand before, in and behind each of them
pub at_slice : {R : Type 0} (slices : List (Bor (List R))) (k : ℕ) (d : Bor (List R)) → k < length slices
    → records_in slices ≡ records_in (take k slices) ++ ((get_or slices k d).now ++ records_in (drop (suc k) slices))
at_slice [] k d lt = absurd (omega arith)
at_slice (s ∷ slices) zero d lt = refl
at_slice {R} (s ∷ slices) (suc k) d lt =
    ap (λ (rs : List R). s.now ++ rs) (at_slice slices k d (omega arith))
    ∙ sym (append_assoc s.now (records_in (take k slices)) ((get_or slices k d).now ++ records_in (drop (suc k) slices)))

pub at_slice_len : {R : Type 0} (slices : List (Bor (List R))) (k : ℕ) (d : Bor (List R)) → k < length slices
    → length (records_in (take k slices)) + length (get_or slices k d).now ≤ length (records_in slices)
at_slice_len slices k d lt =
    let front = records_in (take k slices) in
    let back = records_in (drop (suc k) slices) in
    omega (arith, ap length (at_slice slices k d lt), length-append front ((get_or slices k d).now ++ back), length-append (get_or slices k d).now back)

-- an element of a list, by its place
pub some_at : {X : Type 0} (Q : X → Type 0) (xs : List X) (k : ℕ) (d : X) → k < length xs → Q (get_or xs k d) → IsSomeAnd (slice_get xs k) Q
some_at Q [] k d lt holds = absurd (omega arith)
some_at Q (x ∷ xs) zero d lt holds = holds
some_at Q (x ∷ xs) (suc k) d lt holds = some_at Q xs k d (omega arith) holds

-- ---- lists

module _ {R : Type 0} (p : R → Bool) where
  pub counts-append : (xs ys : List R) → count_by p (xs ++ ys) ≡ count_by p xs + count_by p ys
  counts-append xs ys = sum_by-append (λ x. cond (p x) 1 0) xs ys

  -- the first of a list is the first of a longer one
  pub first_before : (records back : List R) (i : ℕ) → IsFirst p records (Some i) → IsFirst p (records ++ back) (Some i)
  first_before records back i first =
      let lt = found_within p records i first.1 in (
        ap (count_by p) (take-append-le i records back (omega arith)) ∙ first.0,
        subst (λ (o : Option R). IsSomeAnd o (λ r. p r ≡ true)) (sym (slice_get-append_left records back i lt)) first.1,
      )

  -- and of one behind records of which none is picked
  pub first_behind : (front records : List R) (i : ℕ) → count_by p front ≡ 0 → IsFirst p records (Some i) → IsFirst p (front ++ records) (Some (length front + i))
  first_behind front records i none first =
      let less : length front + i - length front ≡ i = omega arith in (
        ap (count_by p) (take-append-past front records i) ∙ counts-append front (take i records) ∙ omega (arith, none, first.0),
        subst (λ (o : Option R). IsSomeAnd o (λ r. p r ≡ true)) (sym (slice_get-append_right front records (length front + i) (omega arith) ∙ ap (slice_get records) less)) first.1,
      )

  -- a slice that is lent first, whose front was searched
  module _ (s : Bor (List R)) (front rest : List R) (cut : s.now ≡ front ++ rest) where
    pub first_in_front : (i : ℕ) → IsFirst p front (Some i) → IsFirst p (records_in (s ∷ [])) (Some i)
    first_in_front i first =
        subst (λ (rs : List R). IsFirst p rs (Some i)) (sym (ap (λ (rs : List R). rs ++ []) cut ∙ append_assoc front rest []))
        (first_before front (rest ++ []) i first)

    in_order : (items : List (Bor (List R))) → records_in (s ∷ items) ≡ front ++ (rest ++ records_in items)
    in_order items = ap (λ (rs : List R). rs ++ records_in items) cut ∙ append_assoc front rest (records_in items)

    pub none_after_front : (items : List (Bor (List R))) → count_by p front ≡ 0 → IsFirst p (rest ++ records_in items) None → IsFirst p (records_in (s ∷ items)) None
    none_after_front items none rest_none =
        omega (arith, none, rest_none, ap (count_by p) (in_order items), counts-append front (rest ++ records_in items))

    pub first_after_front : (items : List (Bor (List R))) (i : ℕ) → count_by p front ≡ 0 → IsFirst p (rest ++ records_in items) (Some i)
        → IsFirst p (records_in (s ∷ items)) (Some (length front + i))
    first_after_front items i none first =
        subst (λ (rs : List R). IsFirst p rs (Some (length front + i))) (sym (in_order items)) (first_behind front (rest ++ records_in items) i none first)

  -- the first of the first slice with one that is picked
  pub first_of_slices : (slices : List (Bor (List R))) (k : ℕ) (d : Bor (List R)) (place : ℕ) → k < length slices
      → count_by p (records_in (take k slices)) ≡ 0 → IsFirst p (get_or slices k d).now (Some place)
      → IsFirst p (records_in slices) (Some (length (records_in (take k slices)) + place))
  first_of_slices slices k d place lt none first =
      subst (λ (rs : List R). IsFirst p rs (Some (length (records_in (take k slices)) + place))) (sym (at_slice slices k d lt))
      (first_behind (records_in (take k slices)) ((get_or slices k d).now ++ records_in (drop (suc k) slices)) place none
      (first_before (get_or slices k d).now (records_in (drop (suc k) slices)) place first))

  -- ---- records that are let go

  pub passes_none : (before : ℕ) (records : List R) → PassesOver p before records before records
  passes_none before records = ([], refl, refl, omega arith)

  pub passes_len : (before then : ℕ) (records left : List R) → PassesOver p before records then left → then + length left ≡ before + length records
  passes_len before then records left passed =
      let at = passed.3 in
      omega (arith, ap length passed.1, length-append passed.0 left)

  -- more were let go of those that were left
  pub passes_on : (start before then : ℕ) (records left rest later front back : List R) → PassesOver p start records before (left ++ rest)
      → PassesOver p before left then later → rest ≡ front ++ back → PassesOver p start records then ((later ++ front) ++ back)
  passes_on start before then records left rest later front back passed more cut =
      let at₁ = passed.3 in
      let at₂ = more.3 in
      let none₁ = passed.2 in
      let none₂ = more.2 in (
        passed.0 ++ more.0,
        passed.1
            ∙ ap (λ (rs : List R). passed.0 ++ (rs ++ rest)) more.1
            ∙ ap (λ (rs : List R). passed.0 ++ rs) (append_assoc more.0 later rest ∙ ap (λ (rs : List R). more.0 ++ (later ++ rs)) cut
            ∙ ap (λ (rs : List R). more.0 ++ rs) (sym (append_assoc later front back)))
            ∙ sym (append_assoc passed.0 more.0 ((later ++ front) ++ back)),
        counts-append passed.0 more.0 ∙ omega (arith, none₁, none₂),
        omega (arith, length-append passed.0 more.0),
      )

  pub passes_more : (start before then : ℕ) (records left more later : List R) → PassesOver p start records before left
      → PassesOver p before (left ++ more) then later → PassesOver p start (records ++ more) then later
  passes_more start before then records left more later passed next =
      let at₁ = passed.3 in
      let at₂ = next.3 in
      let none₁ = passed.2 in
      let none₂ = next.2 in (
        passed.0 ++ next.0,
        ap (λ (rs : List R). rs ++ more) passed.1 ∙ append_assoc passed.0 left more
            ∙ ap (λ (rs : List R). passed.0 ++ rs) next.1 ∙ sym (append_assoc passed.0 next.0 later),
        counts-append passed.0 next.0 ∙ omega (arith, none₁, none₂),
        omega (arith, length-append passed.0 next.0),
      )

  -- the first of those that are left, counted from the start
  pub passes_found : (start before i : ℕ) (records left : List R) → PassesOver p start records before left → before ≤ i
      → IsFirst p left (Some (i - before)) → (start ≤ i) × IsFirst p records (Some (i - start))
  passes_found start before i records left passed le first =
      let at = passed.3 in
      let same : length passed.0 + (i - before) ≡ i - start = omega arith in (
        omega arith,
        subst (λ n. IsFirst p records (Some n)) same
            (subst (λ (rs : List R). IsFirst p rs (Some (length passed.0 + (i - before)))) (sym passed.1) (first_behind passed.0 left (i - before) passed.2 first)),
      )

  -- the first of all, once the last ones were searched
  pub passes_end : (before then : ℕ) (records left later : List R) (found : Option ℕ) → PassesOver p 0 records before left
      → MatchOption found (PassesOver p before left then later) (λ i. (before ≤ i) × IsFirst p left (Some (i - before))) → later ≡ []
      → IsFirst p records found
  passes_end before then records left later None passed rest none =
      let gone = passed.2 in
      let more = rest.2 in
      omega (
        arith,
        gone,
        more,
        ap (count_by p) passed.1,
        counts-append passed.0 left,
        ap (count_by p) rest.1,
        counts-append rest.0 later,
        ap (count_by p) none,
      )
  passes_end before then records left later (Some i) passed found none =
      let same : i - 0 ≡ i = omega arith in
      subst (λ n. IsFirst p records (Some n)) same (passes_found 0 before i records left passed found.0 found.1).1
