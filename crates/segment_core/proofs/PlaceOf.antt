-- The place of each position: inside the frames that say it, and there for each position of the vector.
use Rattle.std.proofs.Common.{◌≡◌, ℕ, ◌+◌, ◌-◌, ◌*◌, ◌≤◌, ◌<◌, Bool, true, false, cond, List, [], ◌∷◌, length, sum, Option, Some, None, refl, sym, ap, ◌∙◌, arith, inl, inr}
use Rattle.std.specs.Prelude.{◌⊎◌, nat_le, nat_lt}
use Rattle.std.specs.List.{flat_map}
use Rattle.std.specs.Option.{option_or}
use Rattle.std.proofs.lemmas.List.{length-append}
use Rattle.std.proofs.lemmas.Bool.{cases_lt, leb-true, le-leb, ltb-false, or_parts, not-false}
use Rattle.segment_core.specs.declared.format.Shape.{Shape}
use Rattle.segment_core.specs.declared.tally.Tally.{Tally}
use Rattle.segment_core.specs.Frame.{Run, Frame, Group, Change, Shrink, Fold, runs_len, header, frame_text, text}
use Rattle.segment_core.specs.Layout.{IsFrame}
use Rattle.segment_core.specs.Tally.{nothing, after, tally_from, tally_of, are_inside, MayFollow, AreLegalFrom, AreLegal}
use Rattle.segment_core.specs.Vector.{last_from, place_in_runs, home_in, change_in, home_of, change_of, place_of}
use Rattle.segment_core.specs.Reading.{head_len}
use Rattle.segment_core.proofs.Push.{length-text}
use Rattle.segment_core.proofs.FrameParts.{length-frame_parts}
use Rattle.segment_core.proofs.LastFrom.{option_or_cases, none_or, place_is}
use Rattle.segment_core.proofs.PlaceAmong.{Between, place_among_inside, place_among_between, place_in_runs_between, place_in_runs_inside}

-- ---- in one frame

-- where a change says it, its runs do, and it isn't folded
pub change_in_some : (shape : Shape) (folded i p : ℕ) (tally : Tally) (runs : List Run) (bytes : List ℕ) (place : ℕ) → change_in shape folded i p tally (Change runs bytes) ≡ Some place
    → (folded ≤ tally.changes) × (place_in_runs shape.width i (p + 6 + runs_len shape.format (length runs)) runs ≡ Some place)
change_in_some shape folded i p tally runs bytes place is = by_test (nat_le folded tally.changes) refl
  where
    by_test : (b : Bool) → nat_le folded tally.changes ≡ b → (folded ≤ tally.changes) × (place_in_runs shape.width i (p + 6 + runs_len shape.format (length runs)) runs ≡ Some place)
    by_test true test = (leb-true folded tally.changes test, sym (ap (λ b. cond b (place_in_runs shape.width i (p + 6 + runs_len shape.format (length runs)) runs) None) test) ∙ is)
    by_test false test = let none = sym (ap (λ b. cond b (place_in_runs shape.width i (p + 6 + runs_len shape.format (length runs)) runs) None) test) ∙ is in absurd cc

pub change_in_live : (shape : Shape) (folded i p : ℕ) (tally : Tally) (runs : List Run) (bytes : List ℕ) → folded ≤ tally.changes
    → change_in shape folded i p tally (Change runs bytes) ≡ place_in_runs shape.width i (p + 6 + runs_len shape.format (length runs)) runs
change_in_live shape folded i p tally runs bytes live = ap (λ b. cond b (place_in_runs shape.width i (p + 6 + runs_len shape.format (length runs)) runs) None) (le-leb folded tally.changes live)

-- the record stands among the frame's records
pub home_in_between : (shape : Shape) (i p : ℕ) (tally : Tally) (frame : Frame) (place : ℕ)
    → IsFrame shape frame → home_in shape.width i p tally frame ≡ Some place
    → Between (p + 6 + head_len shape.format frame) (p + length (frame_text shape.format frame)) shape.width place
home_in_between shape i p tally (Group lengths bytes) place whole is =
    let b = place_among_between shape.width (p + 10 + length lengths * 4) tally.size (sum lengths) i place is in
    let all = length-frame_parts shape.format (Group lengths bytes) in
    let filled = whole.layout.2 in
    record { from = omega (arith, b.from); to = omega (arith, b.to) }
home_in_between shape i p tally (Change runs bytes) place whole is = absurd cc
home_in_between shape i p tally (Shrink n) place whole is = absurd cc
home_in_between shape i p tally (Fold count) place whole is = absurd cc

pub change_in_between : (shape : Shape) (folded i p : ℕ) (tally : Tally) (frame : Frame) (place : ℕ)
    → IsFrame shape frame → change_in shape folded i p tally frame ≡ Some place
    → Between (p + 6 + head_len shape.format frame) (p + length (frame_text shape.format frame)) shape.width place
change_in_between shape folded i p tally (Group lengths bytes) place whole is = absurd cc
change_in_between shape folded i p tally (Change runs bytes) place whole is =
    let b = place_in_runs_between shape.width i (p + 6 + runs_len shape.format (length runs)) runs place ((change_in_some shape folded i p tally runs bytes place is).1) in
    let all = length-frame_parts shape.format (Change runs bytes) in
    let filled = whole.layout.2 in
    record { from = b.from; to = omega (arith, b.to) }
change_in_between shape folded i p tally (Shrink n) place whole is = absurd cc
change_in_between shape folded i p tally (Fold count) place whole is = absurd cc

-- ---- in many

-- each frame says it of a place among its own records
abbrev pub SaysInside : Shape → (ℕ → Tally → Frame → Option ℕ) → Type 0
SaysInside shape says =
    (p : ℕ) (tally : Tally) (frame : Frame) (place : ℕ)
    → IsFrame shape frame → says p tally frame ≡ Some place
    → Between (p + 6 + head_len shape.format frame) (p + length (frame_text shape.format frame)) shape.width place

pub last_from_between : (shape : Shape) (says : ℕ → Tally → Frame → Option ℕ) (p : ℕ) (tally : Tally)
    (frames : List Frame) (place : ℕ)
    → SaysInside shape says → AreLegalFrom shape tally frames
    → last_from says shape.format p tally frames ≡ Some place
    → Between p (p + length (flat_map (frame_text shape.format) frames)) shape.width place
last_from_between shape says p tally [] place inside legal is = absurd cc
last_from_between shape says p tally (frame ∷ frames) place inside legal is =
    let all = length-append (frame_text shape.format frame) (flat_map (frame_text shape.format) frames) in
    elim (option_or_cases (last_from says shape.format (p + length (frame_text shape.format frame)) (after tally frame) frames) (says p tally frame) place is) [
      | inl later ↦
          (let b =
          last_from_between shape says (p + length (frame_text shape.format frame)) (after tally frame) frames place inside legal.2 later in
          record { from = omega (arith, b.from); to = omega (arith, b.to) })
      | inr here ↦ (let b = inside p tally frame place legal.0 here.1 in record { from = omega (arith, b.from); to = omega (arith, b.to) })
    ]

-- below the gate
pub home_of_between : (shape : Shape) (frames : List Frame) (i place : ℕ)
    → AreLegal shape frames → home_of shape frames i ≡ Some place
    → Between (length (header shape)) (length (text shape frames)) shape.width place
home_of_between shape frames i place legal is =
    let b = last_from_between shape (home_in shape.width i) (length (header shape)) nothing frames place (home_in_between shape i) legal is in
    record { from = b.from; to = omega (arith, b.to, length-text shape frames) }

pub change_of_between : (shape : Shape) (folded : ℕ) (frames : List Frame) (i place : ℕ)
    → AreLegal shape frames → change_of shape folded frames i ≡ Some place
    → Between (length (header shape)) (length (text shape frames)) shape.width place
change_of_between shape folded frames i place legal is =
    let b = last_from_between shape (change_in shape folded i) (length (header shape)) nothing frames place (change_in_between shape folded i) legal is in
    record { from = b.from; to = omega (arith, b.to, length-text shape frames) }

pub place_of_cases : (shape : Shape) (frames : List Frame) (i place : ℕ) → place_of shape frames i ≡ Some place
    → (change_of shape (tally_of frames).folded frames i ≡ Some place) ⊎ ((change_of shape (tally_of frames).folded frames i ≡ None) × (home_of shape frames i ≡ Some place))
place_of_cases shape frames i place is = option_or_cases (change_of shape (tally_of frames).folded frames i) (home_of shape frames i) place (sym (place_is shape frames i) ∙ is)

pub place_of_between : (shape : Shape) (frames : List Frame) (i place : ℕ)
    → AreLegal shape frames → place_of shape frames i ≡ Some place
    → Between (length (header shape)) (length (text shape frames)) shape.width place
place_of_between shape frames i place legal is = elim (place_of_cases shape frames i place is) [
  | inl changed ↦ change_of_between shape (tally_of frames).folded frames i place legal changed
  | inr kept ↦ home_of_between shape frames i place legal kept.1
]

-- ---- a live change lies inside the vector

folded_grows : (shape : Shape) (tally : Tally) (frames : List Frame) → AreLegalFrom shape tally frames → tally.folded ≤ (tally_from tally frames).folded
folded_grows shape tally [] legal = omega arith
folded_grows shape tally (Group lengths bytes ∷ frames) legal = folded_grows shape (after tally (Group lengths bytes)) frames legal.2
folded_grows shape tally (Change runs bytes ∷ frames) legal = folded_grows shape (after tally (Change runs bytes)) frames legal.2
folded_grows shape tally (Shrink n ∷ frames) legal = folded_grows shape (after tally (Shrink n)) frames legal.2
folded_grows shape tally (Fold count ∷ frames) legal =
    let rest = folded_grows shape (after tally (Fold count)) frames legal.2 in
    let kept : tally.folded ≤ count = ltb-false count tally.folded ((or_parts (nat_lt count tally.folded) (nat_lt tally.changes count) legal.1.counted).0) in
    omega arith

-- no fold counts a change that isn't there
counted_from : (shape : Shape) (tally : Tally) (frames : List Frame)
    → tally.folded ≤ tally.changes → AreLegalFrom shape tally frames
    → (tally_from tally frames).folded ≤ (tally_from tally frames).changes
counted_from shape tally [] le legal = le
counted_from shape tally (Group lengths bytes ∷ frames) le legal = counted_from shape (after tally (Group lengths bytes)) frames le legal.2
counted_from shape tally (Change runs bytes ∷ frames) le legal = counted_from shape (after tally (Change runs bytes)) frames (omega arith) legal.2
counted_from shape tally (Shrink n ∷ frames) le legal = counted_from shape (after tally (Shrink n)) frames le legal.2
counted_from shape tally (Fold count ∷ frames) le legal =
    counted_from shape (after tally (Fold count)) frames (ltb-false tally.changes count ((or_parts (nat_lt count tally.folded) (nat_lt tally.changes count) legal.1.counted).1)) legal.2

pub folded_counted : (shape : Shape) (frames : List Frame) → AreLegal shape frames → (tally_of frames).folded ≤ (tally_of frames).changes
folded_counted shape frames legal = counted_from shape nothing frames (omega arith) legal

-- while a change is live, the vector doesn't shrink
size_stays : (shape : Shape) (tally : Tally) (frames : List Frame)
    → AreLegalFrom shape tally frames → (tally_from tally frames).folded < tally.changes
    → tally.size ≤ (tally_from tally frames).size
size_stays shape tally [] legal live = omega arith
size_stays shape tally (Group lengths bytes ∷ frames) legal live = let rest = size_stays shape (after tally (Group lengths bytes)) frames legal.2 live in omega arith
size_stays shape tally (Change runs bytes ∷ frames) legal live = size_stays shape (after tally (Change runs bytes)) frames legal.2 (omega arith)
size_stays shape tally (Shrink n ∷ frames) legal live =
    let grows = folded_grows shape (after tally (Shrink n)) frames legal.2 in
    let none = ltb-false tally.folded tally.changes legal.1.folded in
    absurd (omega arith)
size_stays shape tally (Fold count ∷ frames) legal live = size_stays shape (after tally (Fold count)) frames legal.2 live

record IsLiveAt (folded i : ℕ) (tally : Tally) (frame : Frame) : Type 0 where
  inside : i < tally.size
  live : folded ≤ tally.changes
  counted : (after tally frame).changes ≡ tally.changes + 1
  same_size : (after tally frame).size ≡ tally.size

live_at : (shape : Shape) (folded i p : ℕ) (tally : Tally) (frame : Frame) (place : ℕ)
    → MayFollow tally frame → change_in shape folded i p tally frame ≡ Some place
    → IsLiveAt folded i tally frame
live_at shape folded i p tally (Group lengths bytes) place may is = absurd cc
live_at shape folded i p tally (Change runs bytes) place may is =
    let said = change_in_some shape folded i p tally runs bytes place is in
    let inside : are_inside tally.size runs ≡ true = not-false (are_inside tally.size runs) may.inside in
    record { inside = place_in_runs_inside shape.width i (p + 6 + runs_len shape.format (length runs)) tally.size runs place inside said.1; live = said.0; counted = refl; same_size = refl }
live_at shape folded i p tally (Shrink n) place may is = absurd cc
live_at shape folded i p tally (Fold count) place may is = absurd cc

live_from : (shape : Shape) (p : ℕ) (tally : Tally) (frames : List Frame) (folded i place : ℕ)
    → folded ≡ (tally_from tally frames).folded → AreLegalFrom shape tally frames
    → last_from (change_in shape folded i) shape.format p tally frames ≡ Some place
    → i < (tally_from tally frames).size
live_from shape p tally [] folded i place is legal at = absurd cc
live_from shape p tally (frame ∷ frames) folded i place is legal at =
    elim
    (option_or_cases
    (last_from (change_in shape folded i) shape.format (p + length (frame_text shape.format frame)) (after tally frame) frames)
    (change_in shape folded i p tally frame) place at) [
      | inl later ↦ live_from shape (p + length (frame_text shape.format frame)) (after tally frame) frames folded i place is legal.2 later
      | inr here ↦ (
          let b = live_at shape folded i p tally frame place legal.1 here.1 in
          let stays = size_stays shape (after tally frame) frames legal.2 (omega (arith, b.live, b.counted)) in
          omega (arith, b.inside, b.same_size, stays))
    ]

pub live_inside : (shape : Shape) (frames : List Frame) (i place : ℕ) → AreLegal shape frames → change_of shape (tally_of frames).folded frames i ≡ Some place → i < (tally_of frames).size
live_inside shape frames i place legal is = live_from shape (length (header shape)) nothing frames (tally_of frames).folded i place refl legal is

-- ---- each position has a home

home_at : (width i p : ℕ) (tally : Tally) (frame : Frame)
    → MayFollow tally frame → i < (after tally frame).size
    → (i < tally.size) ⊎ ((place : ℕ) × (home_in width i p tally frame ≡ Some place))
home_at width i p tally (Group lengths bytes) may lt = elim (cases_lt i tally.size) [
  | inl before ↦ inl before
  | inr past ↦ inr (p + 10 + length lengths * 4 + (i - tally.size) * width, place_among_inside width (p + 10 + length lengths * 4) tally.size (sum lengths) i past lt)
]
home_at width i p tally (Change runs bytes) may lt = inl lt
home_at width i p tally (Shrink n) may lt = let le = ltb-false tally.size n may.inside in inl (omega arith)
home_at width i p tally (Fold count) may lt = inl lt

pub some_or : (a b : Option ℕ) (place : ℕ) → b ≡ Some place → (other : ℕ) × (option_or a b ≡ Some other)
some_or None b place is = (place, is)
some_or (Some q) b place is = (q, refl)

home_from : (shape : Shape) (p : ℕ) (tally : Tally) (frames : List Frame) (i : ℕ)
    → AreLegalFrom shape tally frames → i < (tally_from tally frames).size
    → (i < tally.size) ⊎ ((place : ℕ) × (last_from (home_in shape.width i) shape.format p tally frames ≡ Some place))
home_from shape p tally [] i legal lt = inl lt
home_from shape p tally (frame ∷ frames) i legal lt =
    let rest : Option ℕ = last_from (home_in shape.width i) shape.format (p + length (frame_text shape.format frame)) (after tally frame) frames in
    elim (home_from shape (p + length (frame_text shape.format frame)) (after tally frame) frames i legal.2 lt) [
      | inr later ↦ inr (later.0, ap (λ o. option_or o (home_in shape.width i p tally frame)) later.1)
      | inl below ↦ elim (home_at shape.width i p tally frame legal.1 below) [ inl first ↦ inl first | inr here ↦ inr (some_or rest (home_in shape.width i p tally frame) here.0 here.1) ]
    ]

pub has_home : (shape : Shape) (frames : List Frame) (i : ℕ) → AreLegal shape frames → i < (tally_of frames).size → (place : ℕ) × (home_of shape frames i ≡ Some place)
has_home shape frames i legal lt = elim (home_from shape (length (header shape)) nothing frames i legal lt) [ inl none ↦ absurd (omega arith) | inr at ↦ at ]

-- ---- a later fold count

counted_past : (shape : Shape) (folded i p : ℕ) (tally : Tally) (frame : Frame) (place : ℕ) → change_in shape folded i p tally frame ≡ Some place → folded ≤ tally.changes
counted_past shape folded i p tally (Group lengths bytes) place is = absurd cc
counted_past shape folded i p tally (Change runs bytes) place is = (change_in_some shape folded i p tally runs bytes place is).0
counted_past shape folded i p tally (Shrink n) place is = absurd cc
counted_past shape folded i p tally (Fold count) place is = absurd cc

pub change_in_past : (shape : Shape) (lo hi i p : ℕ) (tally : Tally) (frame : Frame)
    → lo ≤ tally.changes → hi ≤ tally.changes
    → change_in shape lo i p tally frame ≡ change_in shape hi i p tally frame
change_in_past shape lo hi i p tally (Group lengths bytes) a b = refl
change_in_past shape lo hi i p tally (Change runs bytes) a b = change_in_live shape lo i p tally runs bytes a ∙ sym (change_in_live shape hi i p tally runs bytes b)
change_in_past shape lo hi i p tally (Shrink n) a b = refl
change_in_past shape lo hi i p tally (Fold count) a b = refl

pub changes_grow : (tally : Tally) (frame : Frame) → tally.changes ≤ (after tally frame).changes
changes_grow tally (Group lengths bytes) = omega arith
changes_grow tally (Change runs bytes) = omega arith
changes_grow tally (Shrink n) = omega arith
changes_grow tally (Fold count) = omega arith

change_from_past : (shape : Shape) (lo hi i p : ℕ) (tally : Tally) (frames : List Frame)
    → lo ≤ tally.changes → hi ≤ tally.changes
    → last_from (change_in shape lo i) shape.format p tally frames ≡ last_from (change_in shape hi i) shape.format p tally frames
change_from_past shape lo hi i p tally [] a b = refl
change_from_past shape lo hi i p tally (frame ∷ frames) a b =
    let n : ℕ = p + length (frame_text shape.format frame) in
    let more = changes_grow tally frame in
    ap (λ o. option_or o (change_in shape lo i p tally frame)) (change_from_past shape lo hi i n (after tally frame) frames (omega arith) (omega arith))
    ∙ ap (λ o. option_or (last_from (change_in shape hi i) shape.format n (after tally frame) frames) o) (change_in_past shape lo hi i p tally frame a b)

later_from : (shape : Shape) (lo hi i p : ℕ) (tally : Tally) (frames : List Frame) (place : ℕ)
    → lo ≤ hi → last_from (change_in shape hi i) shape.format p tally frames ≡ Some place
    → last_from (change_in shape lo i) shape.format p tally frames ≡ Some place
later_from shape lo hi i p tally [] place le is = absurd cc
later_from shape lo hi i p tally (frame ∷ frames) place le is =
    let n : ℕ = p + length (frame_text shape.format frame) in
    elim (option_or_cases (last_from (change_in shape hi i) shape.format n (after tally frame) frames) (change_in shape hi i p tally frame) place is) [
      | inl later ↦ ap (λ o. option_or o (change_in shape lo i p tally frame)) (later_from shape lo hi i n (after tally frame) frames place le later)
      | inr here ↦ (
          let past = counted_past shape hi i p tally frame place here.1 in
          let more = changes_grow tally frame in
          ap (λ o. option_or o (change_in shape lo i p tally frame)) (change_from_past shape lo hi i n (after tally frame) frames (omega arith) (omega arith) ∙ here.0)
          ∙ change_in_past shape lo hi i p tally frame (omega arith) past ∙ here.1)
    ]

-- what the changes from a later number on say is said by the last change
pub change_of_later : (shape : Shape) (lo hi : ℕ) (frames : List Frame) (i place : ℕ) → lo ≤ hi → change_of shape hi frames i ≡ Some place → change_of shape lo frames i ≡ Some place
change_of_later shape lo hi frames i place le is = later_from shape lo hi i (length (header shape)) nothing frames place le is

-- ---- where no change is live

all_grow : (tally : Tally) (frames : List Frame) → tally.changes ≤ (tally_from tally frames).changes
all_grow tally [] = omega arith
all_grow tally (frame ∷ frames) = omega (arith, changes_grow tally frame, all_grow (after tally frame) frames)

counted_more : (shape : Shape) (folded i p : ℕ) (tally : Tally) (frame : Frame) (place : ℕ)
    → change_in shape folded i p tally frame ≡ Some place
    → (after tally frame).changes ≡ tally.changes + 1
counted_more shape folded i p tally (Group lengths bytes) place is = absurd cc
counted_more shape folded i p tally (Change runs bytes) place is = refl
counted_more shape folded i p tally (Shrink n) place is = absurd cc
counted_more shape folded i p tally (Fold count) place is = absurd cc

live_counts : (shape : Shape) (folded i p : ℕ) (tally : Tally) (frames : List Frame) (place : ℕ)
    → last_from (change_in shape folded i) shape.format p tally frames ≡ Some place
    → folded < (tally_from tally frames).changes
live_counts shape folded i p tally [] place is = absurd cc
live_counts shape folded i p tally (frame ∷ frames) place is =
    elim
    (option_or_cases
    (last_from (change_in shape folded i) shape.format (p + length (frame_text shape.format frame)) (after tally frame) frames)
    (change_in shape folded i p tally frame) place is) [
      | inl later ↦ live_counts shape folded i (p + length (frame_text shape.format frame)) (after tally frame) frames place later
      | inr here ↦ omega (arith, counted_past shape folded i p tally frame place here.1, counted_more shape folded i p tally frame place here.1, all_grow (after tally frame) frames)
    ]

-- no change from a number on that isn't there
pub change_of_none : (shape : Shape) (folded : ℕ) (frames : List Frame) (i : ℕ) → (tally_of frames).changes ≤ folded → change_of shape folded frames i ≡ None
change_of_none shape folded frames i none =
    none_or (change_of shape folded frames i)
    (λ place is. let more = live_counts shape folded i (length (header shape)) nothing frames place is in omega arith)
