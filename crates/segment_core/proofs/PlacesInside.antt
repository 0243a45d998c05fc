-- The places of a walk without records: all end before the gate, and the last that tells of a position tells where its record stands.
use Rattle.std.proofs.Common.{◌≡◌, ℕ, ◌+◌, ◌-◌, ◌*◌, ◌≤◌, ◌<◌, List, [], ◌∷◌, ◌++◌, length, Option, Some, None, refl, sym, ap, subst, ◌∙◌, arith}
use Rattle.std.specs.List.{flat_map, AllByRecursion}
use Rattle.std.specs.Option.{option_or}
use Rattle.std.proofs.lemmas.List.{length-append}
use Rattle.segment_core.specs.declared.format.Shape.{Shape}
use Rattle.segment_core.specs.declared.found.Home.{Home}
use Rattle.segment_core.specs.declared.tally.Tally.{Tally}
use Rattle.segment_core.specs.Frame.{Run, Frame, Group, Change, Shrink, Fold, header, frame_text, text, records_of_runs}
use Rattle.segment_core.specs.Tally.{nothing, after, tally_of, AreLegal, AreLegalFrom}
use Rattle.segment_core.specs.Vector.{place_among, place_in_runs, home_of, place_of}
use Rattle.segment_core.specs.Reading.{Seen, runs_of}
use Rattle.segment_core.specs.Found.{AreHomes, AreInTurn, home_among, first_record_of, changes_from, changes_of, live_of, live_among}
use Rattle.segment_core.specs.FrameWalk.{homes_of_runs, homes_of_change, live_homes, EndsInside}
use Rattle.segment_core.proofs.FrameParts.{length-frame_parts, records_filled, records_of_runs-cons}
use Rattle.segment_core.proofs.FoundChanges.{all_drop, changes_shaped}
use Rattle.segment_core.proofs.FoundEnd.{place_live}
use Rattle.segment_core.proofs.FoundHomes.{in_turn_up_to}
use Rattle.segment_core.proofs.LastFrom.{option_or_assoc, option_or_none}
use Rattle.segment_core.proofs.PlaceAmong.{place_among_inside, place_among_below}
use Rattle.segment_core.proofs.PlaceOf.{home_of_between}
use Rattle.segment_core.proofs.Push.{length-text}

-- ---- homes

home_before : (width start end i : ℕ) (homes : List Home) → AreInTurn start homes end → i < start → home_among width homes i ≡ None
home_before width start end i [] turn lt = refl
home_before width start end i (home ∷ homes) turn lt =
    let here = turn.0 in
    ap (λ o. option_or o (place_among width home.place home.position home.count i)) (home_before width (start + home.count) end i homes turn.1 (omega arith))
    ∙ place_among_below width home.place home.position home.count i (omega arith)

pub homes_end : (width size start end : ℕ) (homes : List Home) → AreInTurn start homes end
    → ((i q : ℕ) → start ≤ i → i < end → home_among width homes i ≡ Some q → q + width ≤ size) → AllByRecursion (EndsInside width size) homes
homes_end width size start end [] turn inside = tt
homes_end width size start end (home ∷ homes) turn inside = (
  λ some. (
      let here = turn.0 in
      let upto = in_turn_up_to (start + home.count) end homes turn.1 in
      let n : ℕ = home.count - 1 in
      let i : ℕ = start + n in
      let exact : i - home.position ≡ n = omega arith in
      let is : home_among width (home ∷ homes) i ≡ Some (home.place + n * width) =
      ap (λ o. option_or o (place_among width home.place home.position home.count i)) (home_before width (start + home.count) end i homes turn.1 (omega arith))
      ∙ place_among_inside width home.place home.position home.count i (omega arith) (omega arith)
      ∙ ap (λ m. Some (home.place + m * width)) exact in
      let last = inside i (home.place + n * width) (omega arith) (omega arith) is in
      let count : n + 1 ≡ home.count = omega arith in
      let split : n * width + width ≡ (n + 1) * width = omega arith in
      let all = split ∙ ap (λ m. m * width) count in
      omega arith),
  homes_end width size (start + home.count) end homes turn.1 (λ i q from lt is. inside i q (omega arith) lt (ap (λ o. option_or o (place_among width home.place home.position home.count i)) is)),
)

-- ---- runs

runs_end : (width size place : ℕ) (runs : List Run) → place + records_of_runs runs * width ≤ size → AllByRecursion (EndsInside width size) (homes_of_runs width place runs)
runs_end width size place [] le = tt
runs_end width size place (run ∷ runs) le =
    let all = records_of_runs-cons run runs in
    let split : (run.count + records_of_runs runs) * width ≡ run.count * width + records_of_runs runs * width = omega arith in
    let sum = ap (λ n. n * width) all ∙ split in
    (λ some. omega arith, runs_end width size (place + run.count * width) runs (omega arith))

-- the records of a change end inside so many bytes
abbrev ChangeEnds : ℕ → Seen → Type 0
ChangeEnds size change = first_record_of change + records_of_runs (runs_of change.frame) * change.shape.width ≤ size

changes_end : (shape : Shape) (size p : ℕ) (tally : Tally) (frames : List Frame) → AreLegalFrom shape tally frames → p + length (flat_map (frame_text shape.format) frames) ≤ size
    → AllByRecursion (ChangeEnds size) (changes_from shape p frames)
changes_end shape size p tally [] legal le = tt
changes_end shape size p tally (Group lengths bytes ∷ frames) legal le =
    let f : Frame = Group lengths bytes in
    changes_end shape size (p + length (frame_text shape.format f)) (after tally f) frames legal.2
    (omega (arith, length-append (frame_text shape.format f) (flat_map (frame_text shape.format) frames)))
changes_end shape size p tally (Change runs bytes ∷ frames) legal le =
    let f : Frame = Change runs bytes in
    let all = length-append (frame_text shape.format f) (flat_map (frame_text shape.format) frames) in
    let parts = length-frame_parts shape.format f in
    let filled = records_filled shape f legal.0.layout in
    (omega arith, changes_end shape size (p + length (frame_text shape.format f)) (after tally f) frames legal.2 (omega arith))
changes_end shape size p tally (Shrink n ∷ frames) legal le =
    let f : Frame = Shrink n in
    changes_end shape size (p + length (frame_text shape.format f)) (after tally f) frames legal.2
    (omega (arith, length-append (frame_text shape.format f) (flat_map (frame_text shape.format) frames)))
changes_end shape size p tally (Fold count ∷ frames) legal le =
    let f : Frame = Fold count in
    changes_end shape size (p + length (frame_text shape.format f)) (after tally f) frames legal.2
    (omega (arith, length-append (frame_text shape.format f) (flat_map (frame_text shape.format) frames)))

all_append : {X : Type 0} (P : X → Type 0) (xs ys : List X) → AllByRecursion P xs → AllByRecursion P ys → AllByRecursion P (xs ++ ys)
all_append P [] ys xs_all ys_all = ys_all
all_append P (x ∷ xs) ys xs_all ys_all = (xs_all.0, all_append P xs ys xs_all.1 ys_all)

runs_of_changes : (width size : ℕ) (changes : List Seen) → AllByRecursion (ChangeEnds size) changes → AllByRecursion (λ change. change.shape.width ≡ width) changes
    → AllByRecursion (EndsInside width size) (flat_map homes_of_change changes)
runs_of_changes width size [] ends wide = tt
runs_of_changes width size (change ∷ changes) ends wide =
    all_append (EndsInside width size) (homes_of_change change) (flat_map homes_of_change changes)
    (subst (λ w. AllByRecursion (EndsInside w size) (homes_of_change change)) wide.0 (runs_end change.shape.width size (first_record_of change) (runs_of change.frame) ends.0))
    (runs_of_changes width size changes ends.1 wide.1)

-- ---- what is told of a position

pub home_among-append : (width i : ℕ) (xs ys : List Home) → home_among width (xs ++ ys) i ≡ option_or (home_among width ys i) (home_among width xs i)
home_among-append width i [] ys = sym (option_or_none (home_among width ys i))
home_among-append width i (home ∷ xs) ys =
    let here : Option ℕ = place_among width home.place home.position home.count i in
    ap (λ o. option_or o here) (home_among-append width i xs ys) ∙ option_or_assoc (home_among width ys i) (home_among width xs i) here

home_of_runs : (width i place : ℕ) (runs : List Run) → home_among width (homes_of_runs width place runs) i ≡ place_in_runs width i place runs
home_of_runs width i place [] = refl
home_of_runs width i place (run ∷ runs) = ap (λ o. option_or o (place_among width place run.start run.count i)) (home_of_runs width i (place + run.count * width) runs)

home_of_changes : (width i : ℕ) (changes : List Seen) → AllByRecursion (λ change. change.shape.width ≡ width) changes
    → home_among width (flat_map homes_of_change changes) i ≡ live_among width changes i
home_of_changes width i [] wide = refl
home_of_changes width i (change ∷ changes) wide =
    home_among-append width i (homes_of_change change) (flat_map homes_of_change changes)
    ∙ ap (λ o. option_or o (home_among width (homes_of_change change) i)) (home_of_changes width i changes wide.1)
    ∙ ap (option_or (live_among width changes i))
    (ap (λ w. home_among width (homes_of_runs w (first_record_of change) (runs_of change.frame)) i) wide.0 ∙ home_of_runs width i (first_record_of change) (runs_of change.frame))

-- ---- all places of frames

module _ (shape : Shape) (frames : List Frame) (legal : AreLegal shape frames) where
  abbrev gate : ℕ
  gate = length (text shape frames)

  pub homes_end_inside : (homes : List Home) → AreHomes shape frames homes → AllByRecursion (EndsInside shape.width gate) homes
  homes_end_inside homes are =
      homes_end shape.width gate 0 (tally_of frames).size homes are.in_turn
      (λ i q from lt is. (let b = home_of_between shape frames i q legal (sym (are.each i lt) ∙ is) in b.to))

  wide : AllByRecursion (λ change. change.shape.width ≡ shape.width) (live_of shape frames)
  wide = all_drop (λ change. change.shape.width ≡ shape.width) (tally_of frames).folded (changes_of shape frames) (changes_shaped shape frames)

  pub live_end_inside : AllByRecursion (EndsInside shape.width gate) (live_homes shape frames)
  live_end_inside =
      runs_of_changes shape.width gate (live_of shape frames)
      (all_drop (ChangeEnds gate) (tally_of frames).folded (changes_of shape frames)
      (changes_end shape gate (length (header shape)) nothing frames legal (omega (arith, length-text shape frames))))
      wide

  pub places_tell : (homes : List Home) → AreHomes shape frames homes → (i : ℕ) → i < (tally_of frames).size
      → home_among shape.width (homes ++ live_homes shape frames) i ≡ place_of shape frames i
  places_tell homes are i lt =
      home_among-append shape.width i homes (live_homes shape frames)
      ∙ ap (option_or (home_among shape.width (live_homes shape frames) i)) (are.each i lt)
      ∙ ap (λ o. option_or o (home_of shape frames i))
      (home_of_changes shape.width i (live_of shape frames) wide)
      ∙ sym (place_live shape frames i)
