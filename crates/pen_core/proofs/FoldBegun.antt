-- A fold that was begun: its writes go into home bytes that are being folded, and lay the vector's records there.
use Rattle.std.proofs.Common.{◌≡◌, ℕ, ◌+◌, ◌-◌, ◌*◌, ◌≤◌, ◌<◌, true, List, [], ◌∷◌, length, map, take, drop, get_or, Option, Some, None, All, refl, sym, ap, subst, ◌∙◌, arith, inl, inr}
use Rattle.std.specs.Prelude.{◌⊎◌, is_some, IsSome}
use Rattle.std.specs.List.{AllByRecursion}
use Rattle.std.specs.Option.{option_and_then}
use Rattle.std.proofs.Math.Nat.{add-mul}
use Rattle.std.proofs.lemmas.Bool.{cases_lt, or_cases, or_left, or_right}
use Rattle.std.proofs.lemmas.Nat.{row_fits}
use Rattle.std.proofs.lemmas.Option.{slice_get-get_or}
use Rattle.std.proofs.lemmas.List.{length-append, length-drop, length-take-le, get_or-take, get_or-drop, ext_get_or}
use Rattle.std.proofs.lemmas.List.Elements.{All-get_or, All-from_get_or}
use Rattle.disk_core.specs.State.{State, overlay}
use Rattle.disk_core.proofs.ImageLemmas.{length-overlay}
use Rattle.segment_core.specs.declared.format.Shape.{Shape}
use Rattle.segment_core.specs.declared.found.Home.{Home}
use Rattle.segment_core.specs.Frame.{Frame, text}
use Rattle.segment_core.specs.Tally.{nothing, tally_of, AreLegal}
use Rattle.segment_core.specs.Vector.{home_of, change_of, place_of, record_in}
use Rattle.segment_core.specs.Folding.{HomesHold}
use Rattle.segment_core.specs.Blanked.{all_blanked}
use Rattle.segment_core.specs.Raw.{raw}
use Rattle.segment_core.proofs.Apart.{home_of_apart}
use Rattle.segment_core.proofs.Blanked.{tally_from-blanked, home_of-blanked, change_of-blanked}
use Rattle.segment_core.proofs.PlaceOf.{home_of_between, place_of_between, has_home, live_inside}
use Rattle.pen_core.specs.Covered.{has, covers, IsCover}
use Rattle.pen_core.specs.Folds.{laid, IsHomeWrite, IsFolding, IsWholeFold}
use Rattle.pen_core.specs.Held.{HoldsFrames, early_of, gate_of}
use Rattle.pen_core.specs.HomeRuns.{home_span, AreAscending, AreHomeRuns}
use Rattle.pen_core.specs.Listed.{live_runs}
use Rattle.pen_core.specs.PenOf.{HomeWrite}
use Rattle.pen_core.specs.Values.{write_for, writes_for}
use Rattle.pen_core.proofs.Again.{gate_behind}
use Rattle.pen_core.proofs.Begun.{held_legal}
use Rattle.pen_core.proofs.Covers.{has-true, true-has}
use Rattle.pen_core.proofs.LiveRuns.{change_of-covers, told_is, early_of-all}
use Rattle.pen_core.proofs.Overlaid.{overlaid}
use Rattle.pen_core.proofs.RunPositions.{covers-home_runs}
use Rattle.pen_core.proofs.HomeRows.{HasWidth, length-bytes_at, get_or-bytes_at, row_of, SaysHomes, all_at_home, home_runs_of, EndsAt, HasPlace, Misses, laid_kept, laid_long, IsAtHome}

-- ---- the writes of runs that are at home

module _ (shape : Shape) (frames : List Frame) (cells : List (List ℕ)) (legal : AreLegal shape frames)
    (wide : All (HasWidth shape.width) cells) (size_is : length cells ≡ (tally_of frames).size) where
  abbrev width : ℕ
  width = shape.width

  abbrev gate : ℕ
  gate = gate_of shape frames

  abbrev write : Home → HomeWrite
  write run = write_for (raw width) cells run

  length-write : (run : Home) → IsAtHome shape frames run → length (write run).bytes ≡ run.count * width
  length-write run home = let inside = home.inside in length-bytes_at width cells run.position run.count wide (omega arith)

  ends_below : (run : Home) → IsAtHome shape frames run → EndsAt gate (write run)
  ends_below run home =
      let some = home.some in
      let last : ℕ = run.position + run.count - 1 in
      let at = home_of_between shape frames last (run.place + (last - run.position) * width) legal (home.adjacent last (omega arith) (omega arith)) in
      let count : run.count ≡ (last - run.position) + 1 = omega arith in
      let all : run.count * width ≡ (last - run.position) * width + 1 * width = ap (λ n. n * width) count ∙ add-mul (last - run.position) 1 width in
      omega (arith, length-write run home, at.to)

  all_end_below : (runs : List Home) → AllByRecursion (IsAtHome shape frames) runs → AllByRecursion (EndsAt gate) (map write runs)
  all_end_below [] homes = tt
  all_end_below (run ∷ runs) homes = (ends_below run homes.0, all_end_below runs homes.1)

  pub all_placed : (homes : List Home) (cover : List (ℕ × ℕ)) (runs : List Home) → 0 < width → SaysHomes shape frames homes
      → AreHomeRuns width (tally_of frames).size homes cover runs → AllByRecursion (HasPlace gate) (map write runs)
  all_placed homes cover runs some says at = go runs (all_at_home shape frames homes 0 runs says at.runs_are.ascend at.runs_are.each)
    where
      go : (rest : List Home) → AllByRecursion (IsAtHome shape frames) rest → AllByRecursion (HasPlace gate) (map write rest)
      go [] at_home = tt
      go (run ∷ rest) at_home =
          let row = row_fits 0 width run.count width at_home.0.some (omega arith) in
          (record { some = omega (arith, length-write run at_home.0); below = ends_below run at_home.0 }, go rest at_home.1)

  -- the home of a byte that a run's write has
  record IsWritten (run : Home) (j : ℕ) : Type 0 where
    position : ℕ
    place : ℕ
    from : run.position ≤ position
    to : position < run.position + run.count
    home_is : home_of shape frames position ≡ Some place
    place_from : place ≤ j
    place_to : j < place + width

  written_at : (run : Home) (j : ℕ) → IsAtHome shape frames run → run.place ≤ j → j < run.place + length (write run).bytes → IsWritten run j
  written_at run j home from before =
      let r = row_of run.place width run.count j from (omega (arith, length-write run home)) in
      let row : run.position + r.row - run.position ≡ r.row = omega arith in
      record {
        position = run.position + r.row;
        place = run.place + r.row * width;
        from = omega arith;
        to = omega (arith, r.inside);
        home_is = home.adjacent (run.position + r.row) (omega arith) (omega (arith, r.inside)) ∙ ap (λ n. Some (run.place + n * width)) row;
        place_from = r.from;
        place_to = r.before;
      }

  -- a position's home bytes are in no write of a run that hasn't it
  misses : (run : Home) (i place m : ℕ) → IsAtHome shape frames run → (i < run.position) ⊎ (run.position + run.count ≤ i)
      → home_of shape frames i ≡ Some place → m < width → Misses (place + m) (write run)
  misses run i place m home other is small = elim (cases_lt (place + m) run.place) [
    | inl before ↦ inl before
    | inr from ↦ elim (cases_lt (place + m) (run.place + length (write run).bytes)) [
      | inr past ↦ inr past
      | inl inside ↦ (
          let at = written_at run (place + m) home from inside in
          let elsewhere : i ≡ at.position → ⊥ =
          λ same. elim other [ inl before ↦ omega (arith, same, at.from) | inr past ↦ omega (arith, same, at.to) ] in
          elim (home_of_apart shape frames i at.position place at.place legal elsewhere is at.home_is) [
            | inl first ↦ absurd (omega (arith, at.place_from))
            | inr then ↦ absurd (omega (arith, at.place_to))
          ])
    ]
  ]

  later_miss : (from i place m : ℕ) (runs : List Home) → AreAscending from (tally_of frames).size runs
      → AllByRecursion (IsAtHome shape frames) runs → i < from → home_of shape frames i ≡ Some place → m < width
      → AllByRecursion (Misses (place + m)) (map write runs)
  later_miss from i place m [] ascend homes lt is small = tt
  later_miss from i place m (run ∷ runs) ascend homes lt is small =
      let behind = ascend.0 in (
        misses run i place m homes.0 (inl (omega arith)) is small,
        later_miss (run.position + run.count) i place m runs ascend.1 homes.1 (omega arith) is small,
      )

  -- each byte of a covered position's record is laid into its home
  byte_laid : (from i place m : ℕ) (runs : List Home) (bytes : List ℕ) → AreAscending from (tally_of frames).size runs
      → AllByRecursion (IsAtHome shape frames) runs → covers i (map home_span runs) ≡ true
      → home_of shape frames i ≡ Some place → m < width → gate ≤ length bytes
      → get_or (laid (map write runs) bytes) (place + m) 0 ≡ get_or (get_or cells i []) m 0
  byte_laid from i place m [] bytes ascend homes covered is small long = absurd cc
  byte_laid from i place m (run ∷ runs) bytes ascend homes covered is small long =
      let fits = ends_below run homes.0 in
      let longer = length-overlay bytes run.place (write run).bytes (omega arith) in
      elim (or_cases (has i (home_span run)) (covers i (map home_span runs)) covered) [
        | inr later ↦ byte_laid (run.position + run.count) i place m runs (overlay bytes run.place (write run).bytes)
            ascend.1 homes.1 later is small (omega arith)
        | inl here ↦ (
            let within = has-true i run.position run.count here in
            let inside = homes.0.inside in
            let below = home_of_between shape frames i place legal is in
            let told : Some place ≡ Some (run.place + (i - run.position) * width) = sym is ∙ homes.0.adjacent i within.0 within.1 in
            let same : place ≡ run.place + (i - run.position) * width = cc in
            let row = row_fits (i - run.position) width run.count width (omega (arith, within.0, within.1)) (omega arith) in
            let at : place + m - run.place ≡ (i - run.position) * width + m = omega (arith, same) in
            laid_kept gate (place + m) (map write runs) (overlay bytes run.place (write run).bytes) (all_end_below runs homes.1)
            (later_miss (run.position + run.count) i place m runs ascend.1 homes.1 within.1 is small) (omega arith) (omega (arith, below.to))
            ∙ overlaid bytes run.place (write run).bytes (place + m) (omega arith) (omega (arith, same)) (omega (arith, same, length-write run homes.0))
            ∙ ap (λ n. get_or (write run).bytes n 0) at
            ∙ get_or-bytes_at width cells run.position run.count i m wide (omega arith) within.0 within.1 small)
      ]

  -- and so the whole record
  cell_laid : (i place : ℕ) (runs : List Home) (bytes : List ℕ) → AreAscending 0 (tally_of frames).size runs
      → AllByRecursion (IsAtHome shape frames) runs → covers i (map home_span runs) ≡ true
      → home_of shape frames i ≡ Some place → i < length cells → gate ≤ length bytes
      → take width (drop place (laid (map write runs) bytes)) ≡ get_or cells i []
  cell_laid i place runs bytes ascend homes covered is lt long =
      let image : List ℕ = laid (map write runs) bytes in
      let below = home_of_between shape frames i place legal is in
      let longer = laid_long gate (map write runs) bytes (all_end_below runs homes) long in
      let whole = length-take-le width (drop place image) (omega (arith, length-drop place image, below.to)) in
      let one = All-get_or (HasWidth width) cells i [] lt wide in
      ext_get_or 0 (take width (drop place image)) (get_or cells i []) (whole ∙ sym one) (λ m small.
      get_or-take width (drop place image) m 0 (omega arith) ∙ get_or-drop place image m 0
      ∙ byte_laid 0 i place m runs bytes ascend homes covered is (omega arith) long)

  homes_hold_laid : (count : ℕ) (runs : List Home) (bytes : List ℕ) → AreAscending 0 (tally_of frames).size runs
      → AllByRecursion (IsAtHome shape frames) runs
      → ((i : ℕ) → is_some (change_of shape (tally_of frames).folded frames i) ≡ covers i (map home_span runs))
      → gate ≤ length bytes
      → HomesHold shape.format (raw width) (laid (map write runs) bytes) frames count cells
  homes_hold_laid count runs bytes ascend homes same long i some since =
      let told = some_told (change_of shape (tally_of frames).folded frames i) some in
      let inside = live_inside shape frames i told.0 legal told.1 in
      let home = has_home shape frames i legal inside in
      let covered : covers i (map home_span runs) ≡ true = sym (same i) ∙ ap is_some told.1 in
      ap (option_and_then (record_in (raw width) (laid (map write runs) bytes))) home.1
      ∙ ap (λ c. Some c) (cell_laid i home.0 runs bytes ascend homes covered home.1 (omega arith) long)
      ∙ sym (slice_get-get_or cells i [] (omega arith))
    where
      some_told : (o : Option ℕ) → IsSome o → (x : ℕ) × (o ≡ Some x)
      some_told None some = absurd cc
      some_told (Some x) some = (x, refl)

  home_write : (count : ℕ) (run : Home) → IsAtHome shape frames run → 0 < width
      → ((i : ℕ) → has i (home_span run) ≡ true → (told : ℕ) × (early_of shape count frames i ≡ Some told))
      → IsHomeWrite shape count frames (write run)
  home_write count run home some covered =
      let row = row_fits 0 width run.count width home.some (omega arith) in
      record {
        some = omega (arith, length-write run home);
        below_gate = ends_below run home;
        folded = λ j from before. (
            let at = written_at run j home from before in
            let told = covered at.position (true-has at.position run.position run.count at.from at.to) in
            record {
              position = at.position;
              place = at.place;
              told = told.0;
              home_is = at.home_is;
              covered = told.1;
              from = at.place_from;
              before = at.place_to;
            });
      }

  all_home_writes : (count : ℕ) (runs : List Home) → AllByRecursion (IsAtHome shape frames) runs → 0 < width
      → ((i : ℕ) → covers i (map home_span runs) ≡ true → (told : ℕ) × (early_of shape count frames i ≡ Some told))
      → AllByRecursion (IsHomeWrite shape count frames) (map write runs)
  all_home_writes count [] homes some covered = tt
  all_home_writes count (run ∷ runs) homes some covered = (
    home_write count run homes.0 some (λ i e. covered i (or_left (has i (home_span run)) (covers i (map home_span runs)) e)),
    all_home_writes count runs homes.1 some (λ i e. covered i (or_right (has i (home_span run)) (covers i (map home_span runs)) e)),
  )

-- ---- the vector of a file

-- the bytes of each record have the width
pub held_wide : (shape : Shape) (frames : List Frame) (vector : List (List ℕ)) (bytes : List ℕ)
    → HoldsFrames shape frames vector bytes → All (HasWidth shape.width) vector
held_wide shape frames vector bytes has = All-from_get_or (HasWidth shape.width) vector [] (λ i lt. at i lt (place_of shape has.found i) refl)
  where
    at : (i : ℕ) → i < length vector → (o : Option ℕ) → place_of shape has.found i ≡ o → HasWidth shape.width (get_or vector i [])
    at i lt None is =
        let none : None ≡ Some (get_or vector i []) =
        sym (ap (option_and_then (record_in (raw shape.width) bytes)) is) ∙ has.read.each i lt
        ∙ slice_get-get_or vector i [] lt in
        absurd cc
    at i lt (Some place) is =
        let b = place_of_between shape has.found i place has.begins.legal is in
        let size = ap length has.begins.begins.1 ∙ length-append (text shape has.found) has.begins.begins.0 in
        let told : Some (take shape.width (drop place bytes)) ≡ Some (get_or vector i []) =
        sym (ap (option_and_then (record_in (raw shape.width) bytes)) is) ∙ has.read.each i lt
        ∙ slice_get-get_or vector i [] lt in
        let same : take shape.width (drop place bytes) ≡ get_or vector i [] = cc in
        ap length (sym same) ∙ length-take-le shape.width (drop place bytes) (omega (arith, b.to, length-drop place bytes))

-- homes are the same whatever stands in them
SaysHomes-blanked : (shape : Shape) (frames : List Frame) (homes : List Home) → SaysHomes shape frames homes → SaysHomes shape (all_blanked frames) homes
SaysHomes-blanked shape frames homes says i lt =
    says i (subst (λ t. i < t.size) (tally_from-blanked nothing frames) lt) ∙ sym (home_of-blanked shape frames i)

-- All changes are folded: once the writes of the cover's runs are done, each covered position has its record in its
-- home bytes.
module _ (shape : Shape) (frames : List Frame) (vector : List (List ℕ)) (homes : List Home) (cover : List (ℕ × ℕ))
    (runs : List Home) (s : State) (some : 0 < shape.width) (has : HoldsFrames shape (all_blanked frames) vector s.seen)
    (are : SaysHomes shape frames homes)
    (is : IsCover (live_runs shape frames) cover) (at : AreHomeRuns shape.width (tally_of frames).size homes cover runs) where
  abbrev others : List Frame
  others = all_blanked frames

  tally : tally_of others ≡ tally_of frames
  tally = tally_from-blanked nothing frames

  same_covered : (i : ℕ) → is_some (change_of shape (tally_of others).folded others i) ≡ covers i (map home_span runs)
  same_covered i =
      ap (λ t. is_some (change_of shape t.folded others i)) tally
      ∙ ap is_some (change_of-blanked shape (tally_of frames).folded frames i)
      ∙ change_of-covers shape frames i
      ∙ sym (covers-home_runs shape.width (tally_of frames).size homes cover runs i at ∙ is.same i)

  covered_early : (i : ℕ) → covers i (map home_span runs) ≡ true → (told : ℕ) × (early_of shape (tally_of frames).changes others i ≡ Some told)
  covered_early i e =
      let told = told_is (change_of shape (tally_of others).folded others i) (same_covered i ∙ e) in
      (told.0, ap (λ t. early_of shape t.changes others i) (sym tally) ∙ early_of-all shape others i ∙ told.1)

  vector_size : length vector ≡ (tally_of others).size
  vector_size = has.read.size ∙ ap (λ t. t.size) (sym (tally_from-blanked nothing has.found) ∙ ap tally_of has.alike)

  gate_seen : gate_of shape others ≤ length s.seen
  gate_seen =
      let size = ap length has.begins.begins.1 ∙ length-append (text shape has.found) has.begins.begins.0 in
      omega (arith, gate_behind shape has.found others has.alike)

  ascend_others : AreAscending 0 (tally_of others).size runs
  ascend_others = subst (λ t. AreAscending 0 t.size runs) (sym tally) at.runs_are.ascend

  pub IsWholeFold-begun : IsWholeFold shape others vector (writes_for (raw shape.width) vector runs)
  IsWholeFold-begun = record {
    runs = runs;
    writes_are = refl;
    covered = λ i. sym (same_covered i);
    runs_are =
        record {
          ascend = ascend_others;
          each = home_runs_of shape others homes 0 runs (SaysHomes-blanked shape frames homes are) ascend_others
              at.runs_are.each;
          greatest = at.runs_are.greatest;
        };
  }

  pub IsFolding-begun : IsFolding shape (tally_of frames).changes others vector (writes_for (raw shape.width) vector runs) s
  IsFolding-begun =
      let legal = held_legal shape others vector s.seen has in
      let wide = held_wide shape others vector s.seen has in
      let at_home = all_at_home shape others homes 0 runs (SaysHomes-blanked shape frames homes are) ascend_others at.runs_are.each in
      record {
        homes_hold =
            homes_hold_laid shape others vector legal wide vector_size (tally_of frames).changes runs s.seen ascend_others
            at_home same_covered gate_seen;
        into_homes = all_home_writes shape others vector legal wide vector_size (tally_of frames).changes runs at_home some covered_early;
      }
