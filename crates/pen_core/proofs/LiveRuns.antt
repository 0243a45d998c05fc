-- The runs of live changes: the positions that they cover, and that each has some, inside the vector.
use Rattle.std.proofs.Common.{◌≡◌, ℕ, ◌+◌, ◌-◌, ◌*◌, ◌≤◌, ◌<◌, ◌^◌, Bool, true, false, cond, ◌||◌, List, [], ◌∷◌, length, map, Option, Some, None, All, refl, sym, ap, ◌∙◌, arith}
use Rattle.std.specs.Prelude.{nat_le, nat_lt, ◌&&◌, is_some}
use Rattle.std.specs.List.{flat_map, AllByRecursion}
use Rattle.std.specs.Option.{option_or}
use Rattle.std.proofs.lemmas.Bool.{lt-ltb, or_left, or_right}
use Rattle.std.proofs.lemmas.List.{length-append, length-drop, length-map}
use Rattle.std.proofs.lemmas.List.Folds.{list_any-append}
use Rattle.std.proofs.lemmas.List.Elements.{All-nil, All-cons, All-head, All-tail, All-append, All-weaker}
use Rattle.segment_core.specs.declared.format.Format.{Format}
use Rattle.segment_core.specs.declared.format.Format.TheVariants.{One, Two}
use Rattle.segment_core.specs.declared.format.Shape.{Shape}
use Rattle.segment_core.specs.declared.tally.Tally.{Tally}
use Rattle.segment_core.specs.Frame.{Run, Frame, Group, Change, Shrink, Fold, header, frame_text}
use Rattle.segment_core.specs.Layout.{IsRun, HasRuns}
use Rattle.segment_core.specs.Reading.{Seen, runs_of}
use Rattle.segment_core.specs.Tally.{nothing, after, tally_of, AreLegalFrom, AreLegal}
use Rattle.segment_core.specs.Vector.{place_among, place_in_runs, last_from, change_in, change_of}
use Rattle.segment_core.specs.Found.{first_record_of, changes_from, changes_of, live_of, live_among, pairs_of}
use Rattle.segment_core.proofs.FoundChanges.{pair_of, all_drop, changes_counted, change_of_live}
use Rattle.segment_core.proofs.LegalCommand.{size_limit}
use Rattle.segment_core.proofs.PlaceOf.{live_inside}
use Rattle.pen_core.specs.Covered.{has, covers, StandApart, IsCover}
use Rattle.pen_core.specs.Held.{early_in, early_of}
use Rattle.pen_core.specs.Listed.{live_runs}
use Rattle.pen_core.proofs.Covers.{true-has}

-- ---- the positions that live changes cover

told_or : (a b : Option ℕ) → is_some (option_or a b) ≡ (is_some b || is_some a)
told_or None None = refl
told_or None (Some y) = refl
told_or (Some x) None = refl
told_or (Some x) (Some y) = refl

told_test : (b : Bool) (x : ℕ) → is_some (cond b (Some x) None) ≡ b
told_test true x = refl
told_test false x = refl

told_among : (width p start count i : ℕ) → is_some (place_among width p start count i) ≡ has i (start, count)
told_among width p start count i = told_test (nat_le start i && nat_lt i (start + count)) (p + (i - start) * width)

told_in_runs : (width i p : ℕ) (runs : List Run) → is_some (place_in_runs width i p runs) ≡ covers i (map pair_of runs)
told_in_runs width i p [] = refl
told_in_runs width i p (run ∷ runs) =
    let rest : Option ℕ = place_in_runs width i (p + run.count * width) runs in
    told_or rest (place_among width p run.start run.count i)
    ∙ ap (λ b. b || is_some rest) (told_among width p run.start run.count i)
    ∙ ap (λ b. has i (run.start, run.count) || b) (told_in_runs width i (p + run.count * width) runs)

told_live : (width i : ℕ) (changes : List Seen) → is_some (live_among width changes i) ≡ covers i (flat_map pairs_of changes)
told_live width i [] = refl
told_live width i (change ∷ changes) =
    let rest : Option ℕ = live_among width changes i in
    told_or rest (place_in_runs width i (first_record_of change) (runs_of change.frame))
    ∙ ap (λ b. b || is_some rest) (told_in_runs width i (first_record_of change) (runs_of change.frame))
    ∙ ap (λ b. covers i (pairs_of change) || b) (told_live width i changes)
    ∙ sym (list_any-append (has i) (pairs_of change) (flat_map pairs_of changes))

pub change_of-covers : (shape : Shape) (frames : List Frame) (i : ℕ)
    → is_some (change_of shape (tally_of frames).folded frames i) ≡ covers i (live_runs shape frames)
change_of-covers shape frames i = ap is_some (change_of_live shape (tally_of frames).folded frames i) ∙ told_live shape.width i (live_of shape frames)

pub told_is : (o : Option ℕ) → is_some o ≡ true → (x : ℕ) × (o ≡ Some x)
told_is None some = absurd cc
told_is (Some x) some = (x, refl)

-- ---- a fold of all changes

either_way : (b : Bool) → cond {A = Option ℕ} b None None ≡ None
either_way true = refl
either_way false = refl

all_early : (shape : Shape) (folded count i p : ℕ) (tally : Tally) (frames : List Frame)
    → tally.changes + length (changes_from shape p frames) ≤ count
    → last_from (early_in shape folded count i) shape.format p tally frames ≡ last_from (change_in shape folded i)
    shape.format p tally frames
all_early shape folded count i p tally [] few = refl
all_early shape folded count i p tally (Group lengths bytes ∷ frames) few =
    let f : Frame = Group lengths bytes in
    let rest = all_early shape folded count i (p + length (frame_text shape.format f)) (after tally f) frames few in
    ap (λ o. option_or o (early_in shape folded count i p tally f)) rest
    ∙ ap
    (option_or
    (last_from (change_in shape folded i) shape.format (p + length (frame_text shape.format f)) (after tally f)
    frames))
    (either_way (nat_lt tally.changes count))
all_early shape folded count i p tally (Change runs bytes ∷ frames) few =
    let f : Frame = Change runs bytes in
    let rest = all_early shape folded count i (p + length (frame_text shape.format f)) (after tally f) frames (omega arith) in
    ap (λ o. option_or o (early_in shape folded count i p tally f)) rest
    ∙ ap
    (λ b.
    option_or
    (last_from (change_in shape folded i) shape.format (p + length (frame_text shape.format f)) (after tally f) frames)
    (cond b (change_in shape folded i p tally f) None))
    (lt-ltb tally.changes count (omega arith))
all_early shape folded count i p tally (Shrink n ∷ frames) few =
    let f : Frame = Shrink n in
    let rest = all_early shape folded count i (p + length (frame_text shape.format f)) (after tally f) frames few in
    ap (λ o. option_or o (early_in shape folded count i p tally f)) rest
    ∙ ap
    (option_or
    (last_from (change_in shape folded i) shape.format (p + length (frame_text shape.format f)) (after tally f)
    frames))
    (either_way (nat_lt tally.changes count))
all_early shape folded count i p tally (Fold n ∷ frames) few =
    let f : Frame = Fold n in
    let rest = all_early shape folded count i (p + length (frame_text shape.format f)) (after tally f) frames few in
    ap (λ o. option_or o (early_in shape folded count i p tally f)) rest
    ∙ ap
    (option_or
    (last_from (change_in shape folded i) shape.format (p + length (frame_text shape.format f)) (after tally f)
    frames))
    (either_way (nat_lt tally.changes count))

-- each change that is live is folded
pub early_of-all : (shape : Shape) (frames : List Frame) (i : ℕ)
    → early_of shape (tally_of frames).changes frames i ≡ change_of shape (tally_of frames).folded frames i
early_of-all shape frames i =
    all_early shape (tally_of frames).folded (tally_of frames).changes i (length (header shape)) nothing frames
    (let all = changes_counted shape frames in omega arith)

-- ---- each run has a position, inside the vector

abbrev pub HasSome : ℕ × ℕ → Type 0
HasSome run = 0 < run.1

abbrev pub EndsBy : ℕ → ℕ × ℕ → Type 0
EndsBy size run = run.0 + run.1 ≤ size

some_runs : (runs : List Run) → AllByRecursion IsRun runs → All HasSome (map pair_of runs)
some_runs [] each = All-nil HasSome
some_runs (run ∷ runs) each = All-cons HasSome (run.start, run.count) (map pair_of runs) each.0.1.0 (some_runs runs each.1)

some_changes : (shape : Shape) (p : ℕ) (tally : Tally) (frames : List Frame) → AreLegalFrom shape tally frames
    → AllByRecursion (λ change. All HasSome (pairs_of change)) (changes_from shape p frames)
some_changes shape p tally [] legal = tt
some_changes shape p tally (Group lengths bytes ∷ frames) legal =
    some_changes shape (p + length (frame_text shape.format (Group lengths bytes))) (after tally (Group lengths bytes))
    frames legal.2
some_changes shape p tally (Change runs bytes ∷ frames) legal = (
  some_runs runs legal.0.layout.1,
  some_changes shape (p + length (frame_text shape.format (Change runs bytes))) (after tally (Change runs bytes))
      frames legal.2,
)
some_changes shape p tally (Shrink n ∷ frames) legal =
    some_changes shape (p + length (frame_text shape.format (Shrink n))) (after tally (Shrink n)) frames legal.2
some_changes shape p tally (Fold count ∷ frames) legal =
    some_changes shape (p + length (frame_text shape.format (Fold count))) (after tally (Fold count)) frames legal.2

some_pairs : (changes : List Seen) → AllByRecursion (λ change. All HasSome (pairs_of change)) changes → All HasSome (flat_map pairs_of changes)
some_pairs [] each = All-nil HasSome
some_pairs (change ∷ changes) each = All-append HasSome (pairs_of change) (flat_map pairs_of changes) each.0 (some_pairs changes each.1)

pub live_runs_some : (shape : Shape) (frames : List Frame) → AreLegal shape frames → All HasSome (live_runs shape frames)
live_runs_some shape frames legal =
    some_pairs (live_of shape frames)
    (all_drop (λ change. All HasSome (pairs_of change)) (tally_of frames).folded (changes_of shape frames)
    (some_changes shape (length (header shape)) nothing frames legal))

-- where all positions are below a size no run ends behind it
ends_inside : (size : ℕ) (runs : List (ℕ × ℕ)) → All HasSome runs → ((i : ℕ) → covers i runs ≡ true → i < size) → All (EndsBy size) runs
ends_inside size [] some below = All-nil (EndsBy size)
ends_inside size (run ∷ runs) some below =
    let first = All-head HasSome run runs some in
    let last : ℕ = run.0 + run.1 - 1 in
    let at = below last (or_left (has last run) (covers last runs) (true-has last run.0 run.1 (omega arith) (omega arith))) in
    All-cons (EndsBy size) run runs (omega arith)
    (ends_inside size runs (All-tail HasSome run runs some) (λ i e. below i (or_right (has i run) (covers i runs) e)))

live_below : (shape : Shape) (frames : List Frame) (i : ℕ) → AreLegal shape frames → covers i (live_runs shape frames) ≡ true
    → i < (tally_of frames).size
live_below shape frames i legal e =
    let told = told_is (change_of shape (tally_of frames).folded frames i) (change_of-covers shape frames i ∙ e) in
    live_inside shape frames i told.0 legal told.1

pub live_runs_inside : (shape : Shape) (frames : List Frame) → AreLegal shape frames → All (EndsBy (tally_of frames).size) (live_runs shape frames)
live_runs_inside shape frames legal =
    ends_inside (tally_of frames).size (live_runs shape frames) (live_runs_some shape frames legal)
    (λ i e. live_below shape frames i legal e)

-- and so no run ends past the positions that a vector can have
pub live_runs_small : (shape : Shape) (frames : List Frame) → AreLegal shape frames → All (EndsBy (2 ^ 32)) (live_runs shape frames)
live_runs_small shape frames legal =
    let small = size_limit shape frames legal in
    All-weaker (EndsBy (tally_of frames).size) (EndsBy (2 ^ 32)) (λ run le. omega arith) (live_runs shape frames) (live_runs_inside shape frames legal)

apart_some : (from : ℕ) (runs : List (ℕ × ℕ)) → StandApart from runs → All HasSome runs
apart_some from [] apart = All-nil HasSome
apart_some from (run ∷ runs) apart = All-cons HasSome run runs apart.1 (apart_some (run.0 + run.1 + 1) runs apart.2)

pub cover_inside : (shape : Shape) (frames : List Frame) (cover : List (ℕ × ℕ)) → AreLegal shape frames
    → IsCover (live_runs shape frames) cover → All (EndsBy (tally_of frames).size) cover
cover_inside shape frames cover legal is =
    ends_inside (tally_of frames).size cover (apart_some 0 cover is.apart)
    (λ i e. live_below shape frames i legal (sym (is.same i) ∙ e))

-- ---- where a change is live, a position is covered

has_run : (format : Format) (runs : List Run) → HasRuns format runs → 0 < length runs
has_run One runs has = omega arith
has_run Two runs has = has

filled_changes : (shape : Shape) (p : ℕ) (tally : Tally) (frames : List Frame) → AreLegalFrom shape tally frames
    → AllByRecursion (λ change. 0 < length (pairs_of change)) (changes_from shape p frames)
filled_changes shape p tally [] legal = tt
filled_changes shape p tally (Group lengths bytes ∷ frames) legal =
    filled_changes shape (p + length (frame_text shape.format (Group lengths bytes))) (after tally (Group lengths bytes))
    frames legal.2
filled_changes shape p tally (Change runs bytes ∷ frames) legal = (
  (let some = has_run shape.format runs legal.0.layout.0 in omega (arith, length-map runs pair_of)),
  filled_changes shape (p + length (frame_text shape.format (Change runs bytes))) (after tally (Change runs bytes)) frames legal.2,
)
filled_changes shape p tally (Shrink n ∷ frames) legal =
    filled_changes shape (p + length (frame_text shape.format (Shrink n))) (after tally (Shrink n)) frames legal.2
filled_changes shape p tally (Fold count ∷ frames) legal =
    filled_changes shape (p + length (frame_text shape.format (Fold count))) (after tally (Fold count)) frames legal.2

filled_pairs : (changes : List Seen) → AllByRecursion (λ change. 0 < length (pairs_of change)) changes → 0 < length changes
    → 0 < length (flat_map pairs_of changes)
filled_pairs [] each some = absurd (omega arith)
filled_pairs (change ∷ changes) each some = let first = each.0 in omega (arith, length-append (pairs_of change) (flat_map pairs_of changes))

first_covered : (runs : List (ℕ × ℕ)) → All HasSome runs → 0 < length runs → (i : ℕ) × (covers i runs ≡ true)
first_covered [] each some = absurd (omega arith)
first_covered (run ∷ runs) each some =
    let first = All-head HasSome run runs each in
    (run.0, or_left (has run.0 run) (covers run.0 runs) (true-has run.0 run.0 run.1 (omega arith) (omega arith)))

pub live_runs_cover : (shape : Shape) (frames : List Frame) → AreLegal shape frames
    → (tally_of frames).folded < (tally_of frames).changes → (i : ℕ) × (covers i (live_runs shape frames) ≡ true)
live_runs_cover shape frames legal live =
    let all = changes_counted shape frames in
    let left = length-drop (tally_of frames).folded (changes_of shape frames) in
    first_covered (live_runs shape frames) (live_runs_some shape frames legal)
    (filled_pairs (live_of shape frames)
    (all_drop (λ change. 0 < length (pairs_of change)) (tally_of frames).folded (changes_of shape frames)
    (filled_changes shape (length (header shape)) nothing frames legal))
    (omega arith))
