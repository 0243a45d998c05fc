-- Counts over slices.
use Rattle.std.proofs.Common.{◌≡◌, ℕ, zero, suc, ◌+◌, ◌≤◌, ◌<◌, ◌^◌, Bool, cond, List, [], ◌∷◌, ◌++◌, length, map, take, get_or, Bor, Option, Some, None, true, ◌-◌, refl, sym, ap, subst, ◌∙◌, arith}
use Rattle.std.specs.Prelude.{nat_eq, slice_get, IsSomeAnd}
use Rattle.std.proofs.lemmas.Bool.Decides.{nat_tests}
use Rattle.segment_core.proofs.Replaced.{slice_get-append_right}
use Rattle.std.specs.List.{sum, count_by}
use Rattle.std.proofs.lemmas.List.{length-append, append_assoc, map-append, map_push, append-nil}
use Rattle.std.proofs.lemmas.List.Sums.{sum_by-cons, sum_by-append, count_by-le-length}
use Rattle.std.proofs.lemmas.List.Concat.{flat_map-append}
use Rattle.std.specs.Iterator.{Yields}
use Rattle.segment_core.specs.Written.{joined}
use Rattle.search_core.specs.Search.{records_in, LendsFew, LendsFewBehind, LendsAll, LendsUntil}

pub one_of : {R : Type 0} (slices : List (Bor (List R))) (k : ℕ) (d : Bor (List R)) → k < length slices → length (get_or slices k d).now ≤ length (records_in slices)
one_of [] k d lt = absurd (omega arith)
one_of (s ∷ slices) zero d lt = omega (arith, length-append s.now (records_in slices))
one_of (s ∷ slices) (suc k) d lt = let rest = one_of slices k d (omega arith) in omega (arith, length-append s.now (records_in slices))

pub counts : {R : Type 0} (p : R → Bool) (slices : List (Bor (List R))) → sum (map (λ s. count_by p s.now) slices) ≡ count_by p (records_in slices)
counts p [] = refl
counts p (s ∷ slices) =
    sum_by-cons (λ x. x) (count_by p s.now) (map (λ (t : Bor (List _)). count_by p t.now) slices)
    ∙ ap (λ n. count_by p s.now + n) (counts p slices)
    ∙ sym (sum_by-append (λ x. cond (p x) 1 0) s.now (records_in slices))

pub few_counts : {R : Type 0} (p : R → Bool) (slices : List (Bor (List R))) → sum (map (λ s. count_by p s.now) slices) ≤ length (records_in slices)
few_counts p slices = omega (arith, counts p slices, count_by-le-length p (records_in slices))

pub count_by-append : {R : Type 0} (p : R → Bool) (xs ys : List R) → count_by p (xs ++ ys) ≡ count_by p xs + count_by p ys
count_by-append p xs ys = sum_by-append (λ x. cond (p x) 1 0) xs ys

pub none_left : (n : ℕ) → true ≡ nat_eq n 0 → n ≡ 0
none_left n is = grind (arith, nat_tests)

-- ---- what an iterator lends

pub take-append-past : {X : Type 0} (xs ys : List X) (n : ℕ) → take (length xs + n) (xs ++ ys) ≡ xs ++ take n ys
take-append-past [] ys n = let same : 0 + n ≡ n = omega arith in ap (λ k. take k ys) same
take-append-past (x ∷ xs) ys n =
    let same : suc (length xs) + n ≡ suc (length xs + n) = omega arith in
    ap (λ k. take k (x ∷ (xs ++ ys))) same ∙ ap (λ (zs : List _). x ∷ zs) (take-append-past xs ys n)

pub Yields-push : {S A : Type 0} (steps : S → Option A → S → Type 0) (s t u : S) (xs : List A) (x : A) → Yields steps s xs t → steps t (Some x) u → Yields steps s (xs ++ x ∷ []) u
Yields-push steps s t u [] x same step = (u, subst (λ v. steps v (Some x) u) (sym same) step, refl)
Yields-push steps s t u (y ∷ xs) x run step = (run.0, run.1, Yields-push steps run.0 t u xs x run.2 step)

pub records_push : {R : Type 0} (slices : List (Bor (List R))) (s : Bor (List R)) → records_in (slices ++ s ∷ []) ≡ records_in slices ++ s.now
records_push {R} slices s =
    ap joined (map_push (λ (t : Bor (List R)). t.now) slices s)
    ∙ flat_map-append (λ (rs : List R). rs) (map (λ (t : Bor (List R)). t.now) slices) (s.now ∷ [])
    ∙ ap (λ (rs : List R). records_in slices ++ rs) (append-nil s.now)

-- slices that are parted
pub records_cut : {R : Type 0} (slices front back : List (Bor (List R))) → slices ≡ front ++ back → records_in slices ≡ records_in front ++ records_in back
records_cut {R} slices front back cut =
    ap records_in cut ∙ ap joined (map-append (λ (t : Bor (List R)). t.now) front back)
    ∙ flat_map-append (λ (rs : List R). rs) (map (λ (t : Bor (List R)). t.now) front) (map (λ (t : Bor (List R)). t.now) back)

module _ {I R : Type 0} (steps : I → Option (Bor (List R)) → I → Type 0) (p : R → Bool) (start here next : I) (items : List (Bor (List R)))
    (piece : Bor (List R)) (few : LendsFew steps start) (so_far : Yields steps start items here) (step : steps here (Some piece) next) where
  pub lent : Yields steps start (items ++ piece ∷ []) next
  lent = Yields-push steps start here next items piece so_far step

  pub lent_few : length (records_in items) + length piece.now ≤ 2 ^ 32
  lent_few = omega (arith, few (items ++ piece ∷ []) next lent, ap length (records_push items piece), length-append (records_in items) piece.now)

  pub lent_counted : count_by p (records_in (items ++ piece ∷ [])) ≡ count_by p (records_in items) + count_by p piece.now
  lent_counted = ap (count_by p) (records_push items piece) ∙ sum_by-append (λ x. cond (p x) 1 0) (records_in items) piece.now

  -- the first one that is picked is in this piece
  pub found_first : (before place : ℕ) → before ≡ length (records_in items) → count_by p (records_in items) ≡ 0 → place < length piece.now
      → count_by p (take place piece.now) ≡ 0 → IsSomeAnd (slice_get piece.now place) (λ r. p r ≡ true)
      → (count_by p (take (before + place) (records_in (items ++ piece ∷ []))) ≡ 0) × IsSomeAnd (slice_get (records_in (items ++ piece ∷ [])) (before + place)) (λ r. p r ≡ true)
  found_first before place at none lt rest here =
      let front : List R = records_in items in
      let less : before + place - length front ≡ place = omega arith in
      let same : before + place ≡ length front + place = omega arith in (
        ap (λ (rs : List R). count_by p (take (before + place) rs)) (records_push items piece)
            ∙ ap (λ n. count_by p (take n (front ++ piece.now))) same
            ∙ ap (count_by p) (take-append-past front piece.now place)
            ∙ sum_by-append (λ x. cond (p x) 1 0) front (take place piece.now) ∙ ap (λ n. n + count_by p (take place piece.now)) none ∙ (omega (arith, rest)),
        subst (λ (o : Option R). IsSomeAnd o (λ r. p r ≡ true))
            (sym (ap (λ (rs : List R). slice_get rs (before + place)) (records_push items piece)
            ∙ slice_get-append_right front piece.now (before + place) (omega arith) ∙ ap (slice_get piece.now) less)) here,
      )

pub found_within : {R : Type 0} (p : R → Bool) (records : List R) (place : ℕ) → IsSomeAnd (slice_get records place) (λ r. p r ≡ true) → place < length records
found_within p [] place here = absurd here
found_within p (r ∷ records) zero here = omega arith
found_within p (r ∷ records) (suc place) here = let rest = found_within p records place here in omega arith

-- what it has lent so far, and no more where that was all
pub lent_until : {I R : Type 0} (steps : I → Option (Bor (List R)) → I → Type 0) (start here : I) (items : List (Bor (List R))) (found : Option ℕ)
    → LendsAll steps start items → Yields steps start items here → LendsUntil steps start items found
lent_until steps start here items None all so_far = all
lent_until steps start here items (Some i) all so_far = (here, so_far)

-- ---- what is lent behind records that are at hand

pub behind_push : {R : Type 0} (head : List R) (slices : List (Bor (List R))) (s : Bor (List R)) → head ++ records_in (slices ++ s ∷ []) ≡ (head ++ records_in slices) ++ s.now
behind_push {R} head slices s = ap (λ (rs : List R). head ++ rs) (records_push slices s) ∙ sym (append_assoc head (records_in slices) s.now)

module _ {I R : Type 0} (steps : I → Option (Bor (List R)) → I → Type 0) where
  pub few_behind : (head : List R) (start : I) → LendsFewBehind head steps start → LendsFew steps start
  few_behind head start few items rest run = omega (arith, few items rest run)

  pub few_after : (start here : I) (s : Bor (List R)) (records : List R) → LendsFew steps start → steps start (Some s) here → length records ≤ length s.now
      → LendsFewBehind records steps here
  few_after start here s records few step short items rest run =
      omega (arith, few (s ∷ items) rest (here, step, run), length-append s.now (records_in items), short)

  pub all_after : (start here : I) (s : Bor (List R)) (items : List (Bor (List R))) → steps start (Some s) here → LendsAll steps here items → LendsAll steps start (s ∷ items)
  all_after start here s items step all = (all.0, (all.1.0, (here, step, all.1.1), all.1.2))
