-- What stands at each position once runs are replaced.
use Rattle.std.proofs.Common.{◌≡◌, ℕ, zero, suc, ◌+◌, ◌-◌, ◌*◌, ◌≤◌, ◌<◌, true, List, [], ◌∷◌, ◌++◌, length, take, drop, Some, None, refl, ap, ◌∙◌, arith, inl, inr}
use Rattle.std.specs.Prelude.{nat_le, slice_get}
use Rattle.std.proofs.lemmas.List.{length-append, length-take-le, length-drop}
use Rattle.std.proofs.lemmas.Bool.{cases_lt, and_parts, leb-true}
use Rattle.std.proofs.Math.Nat.{add-mul}
use Rattle.record_core.proofs.Cells.{slice_get-append_left}
use Rattle.segment_core.specs.Frame.{Run, records_of_runs}
use Rattle.segment_core.specs.Tally.{are_inside}
use Rattle.segment_core.specs.Vector.{place_among, place_in_runs}
use Rattle.segment_core.specs.Command.{replaced}
use Rattle.segment_core.proofs.FrameParts.{records_of_runs-cons}
use Rattle.segment_core.proofs.LastFrom.{option_or_cases, both_none}
use Rattle.segment_core.proofs.PlaceAmong.{place_among_some, place_among_inside}

-- ---- elements of a list

pub slice_get-append_right : {X : Type 0} (xs ys : List X) (i : ℕ) → length xs ≤ i → slice_get (xs ++ ys) i ≡ slice_get ys (i - length xs)
slice_get-append_right [] ys i le = let all : i ≡ i - 0 = omega arith in ap (slice_get ys) all
slice_get-append_right (x ∷ xs) ys zero le = absurd (omega arith)
slice_get-append_right (x ∷ xs) ys (suc i) le = let same : i - length xs ≡ suc i - suc (length xs) = omega arith in slice_get-append_right xs ys i (omega arith) ∙ ap (slice_get ys) same

pub slice_get-take : {X : Type 0} (n : ℕ) (xs : List X) (i : ℕ) → i < n → slice_get (take n xs) i ≡ slice_get xs i
slice_get-take zero xs i lt = absurd (omega arith)
slice_get-take (suc n) [] i lt = refl
slice_get-take (suc n) (x ∷ xs) zero lt = refl
slice_get-take (suc n) (x ∷ xs) (suc i) lt = slice_get-take n xs i (omega arith)

pub slice_get-drop : {X : Type 0} (n : ℕ) (xs : List X) (i : ℕ) → slice_get (drop n xs) i ≡ slice_get xs (n + i)
slice_get-drop zero xs i = let all : i ≡ 0 + i = omega arith in ap (slice_get xs) all
slice_get-drop (suc n) [] i = refl
slice_get-drop (suc n) (x ∷ xs) i = let same : suc (n + i) ≡ suc n + i = omega arith in slice_get-drop n xs i ∙ ap (slice_get (x ∷ xs)) same

-- ---- one run

module _ {R : Type 0} (records new : List R) (start count : ℕ) (inside : start + count ≤ length records) (filled : count ≤ length new) where
  abbrev pub spliced : List R
  spliced = take start records ++ take count new ++ drop (start + count) records

  length-front : length (take start records) ≡ start
  length-front = length-take-le start records (omega arith)

  length-two : length (take start records ++ take count new) ≡ start + count
  length-two = omega (arith, length-append (take start records) (take count new), length-front, length-take-le count new filled)

  pub length-spliced : length spliced ≡ length records
  length-spliced = omega (arith, length-append (take start records ++ take count new) (drop (start + count) records), length-two, length-drop (start + count) records)

  pub spliced_before : (i : ℕ) → i < start → slice_get spliced i ≡ slice_get records i
  spliced_before i lt =
      slice_get-append_left (take start records ++ take count new) (drop (start + count) records) i (omega (arith, length-two))
      ∙ slice_get-append_left (take start records) (take count new) i (omega (arith, length-front)) ∙ slice_get-take start records i lt

  pub spliced_inside : (i : ℕ) → start ≤ i → i < start + count → slice_get spliced i ≡ slice_get new (i - start)
  spliced_inside i from before =
      slice_get-append_left (take start records ++ take count new) (drop (start + count) records) i (omega (arith, length-two))
      ∙ slice_get-append_right (take start records) (take count new) i (omega (arith, length-front))
      ∙ ap (λ n. slice_get (take count new) (i - n)) length-front
      ∙ slice_get-take count new (i - start) (omega arith)

  pub spliced_past : (i : ℕ) → start + count ≤ i → slice_get spliced i ≡ slice_get records i
  spliced_past i past =
      let at : start + count + (i - (start + count)) ≡ i = omega arith in
      slice_get-append_right (take start records ++ take count new) (drop (start + count) records) i (omega (arith, length-two))
      ∙ ap (λ n. slice_get (drop (start + count) records) (i - n)) length-two ∙ slice_get-drop (start + count) records (i - (start + count)) ∙ ap (slice_get records) at

  pub spliced_outside : (width p i : ℕ) → place_among width p start count i ≡ None → slice_get spliced i ≡ slice_get records i
  spliced_outside width p i none = elim (cases_lt i start) [
    | inl before ↦ spliced_before i before
    | inr from ↦ elim (cases_lt i (start + count)) [
      | inl within ↦ (let some = place_among_inside width p start count i from within in absurd cc)
      | inr past ↦ spliced_past i past
    ]
  ]

-- ---- runs one after the other

-- what one run asks of the list and of the new records, and what is left for those behind it
record Splits {R : Type 0} (records : List R) (run : Run) (runs : List Run) (new : List R) : Type 0 where
  inside : run.start + run.count ≤ length records
  filled : run.count ≤ length new
  size : length (take run.start records ++ take run.count new ++ drop (run.start + run.count) records) ≡ length records
  rest_inside : are_inside (length (take run.start records ++ take run.count new ++ drop (run.start + run.count) records)) runs ≡ true
  rest_filled : length (drop run.count new) ≡ records_of_runs runs

splits : {R : Type 0} (records : List R) (run : Run) (runs : List Run) (new : List R)
    → are_inside (length records) (run ∷ runs) ≡ true → length new ≡ records_of_runs (run ∷ runs)
    → Splits records run runs new
splits records run runs new inside filled =
    let both = and_parts (nat_le (run.start + run.count) (length records)) (are_inside (length records) runs) inside in
    let end = leb-true (run.start + run.count) (length records) both.0 in
    let all = records_of_runs-cons run runs in
    let some : run.count ≤ length new = omega arith in
    let size = length-spliced records new run.start run.count end some in record {
      inside = end;
      filled = some;
      size = size;
      rest_inside = ap (λ n. are_inside n runs) size ∙ both.1;
      rest_filled = omega (arith, length-drop run.count new);
    }

pub length-replaced : {R : Type 0} (records : List R) (runs : List Run) (new : List R)
    → are_inside (length records) runs ≡ true → length new ≡ records_of_runs runs
    → length (replaced records runs new) ≡ length records
length-replaced records [] new inside filled = refl
length-replaced records (run ∷ runs) new inside filled =
    let s = splits records run runs new inside filled in
    length-replaced (take run.start records ++ take run.count new ++ drop (run.start + run.count) records) runs (drop run.count new) s.rest_inside s.rest_filled ∙ s.size

pub replaced_kept : {R : Type 0} (width i p : ℕ) (records : List R) (runs : List Run) (new : List R)
    → are_inside (length records) runs ≡ true → length new ≡ records_of_runs runs
    → place_in_runs width i p runs ≡ None
    → slice_get (replaced records runs new) i ≡ slice_get records i
replaced_kept width i p records [] new inside filled none = refl
replaced_kept width i p records (run ∷ runs) new inside filled none =
    let s = splits records run runs new inside filled in
    let both = both_none (place_in_runs width i (p + run.count * width) runs) (place_among width p run.start run.count i) none in
    replaced_kept width i (p + run.count * width) (take run.start records ++ take run.count new ++ drop (run.start + run.count) records) runs (drop run.count new) s.rest_inside s.rest_filled both.0
    ∙ spliced_outside records new run.start run.count s.inside s.filled width p i both.1

-- a place where the runs' records, from p on, say what is at position i: that of one of the new records, which is
-- there now
pub record IsNew {R : Type 0} (width p place : ℕ) (left new : List R) (i : ℕ) : Type 0 where
  pub index : ℕ
  pub inside : index < length new
  pub at : place ≡ p + index * width
  pub same : slice_get left i ≡ slice_get new index

pub replaced_told : {R : Type 0} (width i p : ℕ) (records : List R) (runs : List Run) (new : List R) (place : ℕ)
    → are_inside (length records) runs ≡ true → length new ≡ records_of_runs runs
    → place_in_runs width i p runs ≡ Some place
    → IsNew width p place (replaced records runs new) new i
replaced_told width i p records [] new place inside filled is = absurd cc
replaced_told {R} width i p records (run ∷ runs) new place inside filled is =
    let s = splits records run runs new inside filled in
    let next : List R = take run.start records ++ take run.count new ++ drop (run.start + run.count) records in
    elim (option_or_cases (place_in_runs width i (p + run.count * width) runs) (place_among width p run.start run.count i) place is) [
      | inl later ↦ (
          let told = replaced_told width i (p + run.count * width) next runs (drop run.count new) place s.rest_inside s.rest_filled later in
          record {
            index = run.count + told.index;
            inside = omega (arith, told.inside, length-drop run.count new);
            at = omega (arith, told.at, add-mul run.count told.index width);
            same = told.same ∙ slice_get-drop run.count new told.index;
          })
      | inr here ↦ (
          let among = place_among_some width p run.start run.count i place here.1 in
          record {
            index = i - run.start;
            inside = omega (arith, among.from, among.before, s.filled);
            at = among.at;
            same =
                replaced_kept width i (p + run.count * width) next runs (drop run.count new) s.rest_inside s.rest_filled here.0
                ∙ spliced_inside records new run.start run.count s.inside s.filled i among.from among.before;
          })
    ]
