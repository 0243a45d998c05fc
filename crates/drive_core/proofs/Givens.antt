-- What a change to given records makes of a list.
use Rattle.std.proofs.Common.{if◌then◌else◌, ◌≡◌, ℕ, zero, suc, ◌+◌, ◌-◌, ◌≤◌, ◌<◌, Bool, true, false, ◌&&◌, ◌||◌, nat_lt, nat_le, List, [], ◌∷◌, ◌++◌, length, take, drop, map, Option, Some, None, refl, sym, ap, ◌∙◌, arith, lt-ltb, le-leb, leb-true, slice_get}
use Rattle.std.specs.Option.{option_map}
use Rattle.std.specs.Global.{Vec}
use Rattle.std.proofs.lemmas.Option.{same_Some}
use Rattle.std.proofs.lemmas.Bool.{and_parts}
use Rattle.std.proofs.lemmas.List.{length-take-le, length-drop, take_all, map-append}
use Rattle.segment_core.specs.Frame.{Run}
use Rattle.segment_core.specs.Tally.{are_ascending, are_inside}
use Rattle.segment_core.specs.Command.{replaced}
use Rattle.segment_core.specs.Written.{joined}
use Rattle.segment_core.specs.Runs.{runs_given}
use Rattle.segment_core.proofs.Written.{take_more}
use Rattle.segment_core.proofs.OneVector.{same_items}
use Rattle.segment_core.proofs.Replaced.{slice_get-take, slice_get-drop}
use Rattle.vault_core.specs.Touched.{has, cover, taken_at, IsTouched}
use Rattle.vault_core.proofs.Touches.{replaced_taken}
use Rattle.drive_core.specs.Given.{run_record_at, or_else, given_by_runs, pieces_of}
use Rattle.drive_core.specs.World.{piece_runs}
use Rattle.drive_core.proofs.PenFolds.{not_lt}

past_none : {R : Type 0} (xs : List R) (j : ℕ) → length xs ≤ j → slice_get xs j ≡ None
past_none [] j le = refl
past_none (x ∷ xs) zero le = absurd (omega (arith, le))
past_none (x ∷ xs) (suc j) le = past_none xs j (omega (arith, le))

get_some : {R : Type 0} (xs : List R) (j : ℕ) → j < length xs → (x : R) × (slice_get xs j ≡ Some x)
get_some [] j less = absurd (omega (arith, less))
get_some (x ∷ xs) zero less = (x, refl)
get_some (x ∷ xs) (suc j) less = get_some xs j (omega (arith, less))

-- runs that ascend from a position cover none before it
cover_from : (runs : List Run) (from i : ℕ) → are_ascending from runs ≡ true → cover runs i ≡ true → from ≤ i
cover_from [] from i up on = absurd cc
cover_from (run ∷ runs) from i up on =
    let both = and_parts (nat_le from run.start) (are_ascending (run.start + run.count) runs) up in
    let first = leb-true from run.start both.0 in
    at (λ later. cover_from runs (run.start + run.count) i both.1 later) (has i run) refl first
  where
    at : (cover runs i ≡ true → run.start + run.count ≤ i) → (b : Bool) → has i run ≡ b → from ≤ run.start → from ≤ i
    at again true is first = let parts = and_parts (nat_le run.start i) (nat_lt i (run.start + run.count)) is in let le = leb-true run.start i parts.0 in omega (arith, first, le)
    at again false is first = let later = again (ap (λ b. b || cover runs i) (sym is) ∙ on) in omega (arith, first, later)

has_own : (start count j : ℕ) → j < count → has (start + j) (record { start = start; count = count }) ≡ true
has_own start count j less = ap (λ b. b && nat_lt (start + j) (start + count)) (le-leb start (start + j) (omega arith)) ∙ lt-ltb (start + j) (start + count) (omega (arith, less))

module _ {R : Type 0} where
  -- inside its run, and past it
  at_inside : (start : ℕ) (records : List R) (j : ℕ) → run_record_at (start, records) (start + j) ≡ slice_get records j
  at_inside start records j =
      ap (λ (b : Bool). if b then None else slice_get records (start + j - start)) (not_lt (start + j) start (omega arith))
      ∙ ap (slice_get records) (let same : start + j - start ≡ j = omega arith in same)

  at_past : (start : ℕ) (records : List R) (i : ℕ) → start + length records ≤ i → run_record_at (start, records) i ≡ None
  at_past start records i le =
      ap (λ (b : Bool). if b then None else slice_get records (i - start)) (not_lt i start (omega (arith, le))) ∙ past_none records (i - start) (omega (arith, le))

  -- what stands in the runs is what was given
  taken_given : (pieces : List (ℕ × List R)) (from : ℕ) (old new : List R) → are_ascending from (piece_runs pieces) ≡ true → are_inside (length old) (piece_runs pieces) ≡ true
      → length new ≡ length old
      → ((i : ℕ) → cover (piece_runs pieces) i ≡ true → slice_get new i ≡ option_map (given_by_runs pieces i) (slice_get old i))
      → taken_at (piece_runs pieces) new ≡ joined (map (λ piece. piece.1) pieces)
  taken_given [] from old new up inside long each = refl
  taken_given ((start, records) ∷ pieces) from old new up inside long each =
      let rest = taken_given pieces (start + length records) old new ups.1 ins.1 long (λ i on.
      let later = cover_from (piece_runs pieces) (start + length records) i ups.1 on in
      each i (or_true (has i (record { start = start; count = length records })) (cover (piece_runs pieces) i) on) ∙ passed i (slice_get old i) later) in
      λ i. first i ++ rest i
    where
      count : ℕ
      count = length records

      ups : (nat_le from start ≡ true) × (are_ascending (start + length records) (piece_runs pieces) ≡ true)
      ups = and_parts (nat_le from start) (are_ascending (start + length records) (piece_runs pieces)) up

      ins : (nat_le (start + length records) (length old) ≡ true) × (are_inside (length old) (piece_runs pieces) ≡ true)
      ins = and_parts (nat_le (start + length records) (length old)) (are_inside (length old) (piece_runs pieces)) inside

      fits : start + length records ≤ length old
      fits = leb-true (start + length records) (length old) ins.0

      many : length (take (length records) (drop start new)) ≡ length records
      many = length-take-le (length records) (drop start new) (let left = length-drop start new in omega (arith, left, long, fits))

      first : take (length records) (drop start new) ≡ records
      first = same_items (take (length records) (drop start new)) records many (λ j less.
          let inner : j < length records = omega (arith, less, many) in
          let was = get_some old (start + j) (omega (arith, fits, inner)) in
          let here = get_some records j inner in
          let covered : cover (piece_runs ((start, records) ∷ pieces)) (start + j) ≡ true = ap (λ b. b || cover (piece_runs pieces) (start + j)) (has_own start (length records) j inner) in
          slice_get-take (length records) (drop start new) j inner ∙ slice_get-drop start new j
          ∙ each (start + j) covered ∙ ap (option_map (given_by_runs ((start, records) ∷ pieces) (start + j))) was.1
          ∙ ap (λ o. Some (or_else o (given_by_runs pieces (start + j) was.0))) (at_inside start records j ∙ here.1) ∙ sym here.1)

      or_true : (a b : Bool) → b ≡ true → (a || b) ≡ true
      or_true true b is = refl
      or_true false b is = is

      passed : (i : ℕ) (o : Option R) → start + length records ≤ i → option_map (given_by_runs ((start, records) ∷ pieces) i) o ≡ option_map (given_by_runs pieces i) o
      passed i None later = refl
      passed i (Some r) later = ap (λ p. Some (or_else p (given_by_runs pieces i r))) (at_past start records i later)

  -- a list that is touched so has its runs replaced by the records
  pub given_replaces : (pieces : List (ℕ × List R)) (old new : List R) → are_ascending 0 (piece_runs pieces) ≡ true → are_inside (length old) (piece_runs pieces) ≡ true
      → IsTouched (given_by_runs pieces) (piece_runs pieces) old new
      → (taken_at (piece_runs pieces) new ≡ joined (map (λ piece. piece.1) pieces)) × (new ≡ replaced old (piece_runs pieces) (joined (map (λ piece. piece.1) pieces)))
  given_replaces pieces old new up inside touched =
      let taken = taken_given pieces 0 old new up inside touched.same_length touched.inside in
      (taken, sym (replaced_taken (piece_runs pieces) old new touched.same_length inside touched.outside) ∙ ap (replaced old (piece_runs pieces)) taken)

-- the runs from one on, where that one has a record at the position, and where it has none
pub given_some : {R : Type 0} (runs : List (ℕ × Vec R)) (k : ℕ) (run : ℕ × Vec R) (at : ℕ) (r found : R) → slice_get runs k ≡ Some run
    → run_record_at (run.0, run.1.items) at ≡ Some found → given_by_runs (pieces_of (drop k runs)) at r ≡ found
given_some [] k run at r found there here = absurd cc
given_some (x ∷ runs) zero run at r found there here = ap (λ o. or_else o (given_by_runs (pieces_of runs) at r)) (ap (λ y. run_record_at (y.0, y.1.items) at) (same_Some x run there) ∙ here)
given_some (x ∷ runs) (suc k) run at r found there here = given_some runs k run at r found there here

pub given_none : {R : Type 0} (runs : List (ℕ × Vec R)) (k : ℕ) (run : ℕ × Vec R) (at : ℕ) (r : R) → slice_get runs k ≡ Some run → run_record_at (run.0, run.1.items) at ≡ None
    → given_by_runs (pieces_of (drop k runs)) at r ≡ given_by_runs (pieces_of (drop (k + 1) runs)) at r
given_none [] k run at r there here = absurd cc
given_none (x ∷ runs) zero run at r there here = ap (λ o. or_else o (given_by_runs (pieces_of runs) at r)) (ap (λ y. run_record_at (y.0, y.1.items) at) (same_Some x run there) ∙ here)
given_none (x ∷ runs) (suc k) run at r there here =
    let next : suc (k + 1) ≡ suc k + 1 = omega arith in
    given_none runs k run at r there here ∙ ap (λ n. given_by_runs (pieces_of (drop n (x ∷ runs))) at r) next

-- the runs so far
pub runs_more : {R : Type 0} (list : List (ℕ × ℕ)) (runs : List (ℕ × Vec R)) (k : ℕ) (run : ℕ × Vec R) → slice_get runs k ≡ Some run
    → runs_given list ≡ piece_runs (pieces_of (take k runs)) → runs_given (list ++ (run.0, length run.1.items) ∷ []) ≡ piece_runs (pieces_of (take (k + 1) runs))
runs_more list runs k run there is =
    map-append (λ (r : ℕ × ℕ). record { start = r.0; count = r.1 }) list ((run.0, length run.1.items) ∷ []) ∙ ap (λ rs. rs ++ record { start = run.0; count = length run.1.items } ∷ []) is
    ∙ sym (ap (λ rs. piece_runs (pieces_of rs)) (take_more runs k run there) ∙ ap piece_runs (map-append (λ (r : ℕ × Vec _). (r.0, r.1.items)) (take k runs) (run ∷ []))
    ∙ map-append (λ (piece : ℕ × List _). record { start = piece.0; count = length piece.1 }) (pieces_of (take k runs)) ((run.0, run.1.items) ∷ []))

pub runs_all : {R : Type 0} (list : List (ℕ × ℕ)) (runs : List (ℕ × Vec R)) (k : ℕ) → length runs ≤ k → runs_given list ≡ piece_runs (pieces_of (take k runs))
    → runs_given list ≡ piece_runs (pieces_of runs)
runs_all list runs k le is = is ∙ ap (λ rs. piece_runs (pieces_of rs)) (take_all k runs le)

pub given_past : {R : Type 0} (runs : List (ℕ × Vec R)) (k : ℕ) (at : ℕ) (r : R) → length runs ≤ k → given_by_runs (pieces_of (drop k runs)) at r ≡ r
given_past [] zero at r le = refl
given_past [] (suc k) at r le = refl
given_past (x ∷ runs) zero at r le = absurd (omega (arith, le))
given_past (x ∷ runs) (suc k) at r le = given_past runs k at r (omega (arith, le))
