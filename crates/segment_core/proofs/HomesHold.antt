-- What homes have to hold for a fold stays so while groups and later changes are committed.
use Rattle.std.proofs.Common.{◌≡◌, ℕ, ◌+◌, ◌*◌, ◌≤◌, ◌<◌, List, [], ◌∷◌, ◌++◌, length, sum, Option, Some, None, refl, sym, ap, subst, ◌∙◌, arith}
use Rattle.std.specs.Prelude.{slice_get, IsSome}
use Rattle.std.specs.Option.{option_or, option_and_then}
use Rattle.record_core.specs.Bytes.{Encoding}
use Rattle.segment_core.specs.declared.format.Format.{Format}
use Rattle.segment_core.specs.declared.format.Shape.{Shape}
use Rattle.segment_core.specs.declared.tally.Tally.{Tally}
use Rattle.segment_core.specs.Shape.{shape_of}
use Rattle.segment_core.specs.Frame.{Frame, Group, Change, Shrink, Fold, text}
use Rattle.segment_core.specs.Tally.{nothing, after, tally_of, AreLegal}
use Rattle.segment_core.specs.Image.{BeginsImage}
use Rattle.segment_core.specs.Vector.{home_in, change_in, home_of, change_of, record_in, IsVectorOf}
use Rattle.segment_core.specs.Folding.{HomesHold}
use Rattle.segment_core.specs.Blanked.{all_blanked}
use Rattle.segment_core.proofs.Push.{tally_from_push, BeginsImage_before}
use Rattle.segment_core.proofs.LastFrom.{both_none, place_is, home_push, change_push}
use Rattle.segment_core.proofs.PlaceAmong.{place_among_below}
use Rattle.segment_core.proofs.PlaceOf.{live_inside, change_in_past}
use Rattle.segment_core.proofs.Blanked.{same_tally, same_home, same_change}

-- a frame that is no Shrink and no Fold
abbrev pub Appends : Frame → Type 0
Appends (Group lengths bytes) = Unit {0}
Appends (Change runs bytes) = Unit {0}
Appends (Shrink n) = ⊥
Appends (Fold count) = ⊥

-- positions that are there have no new home
pub home_in_before : (width i p : ℕ) (tally : Tally) (frame : Frame) → i < tally.size → home_in width i p tally frame ≡ None
home_in_before width i p tally (Group lengths bytes) lt = place_among_below width (p + 10 + length lengths * 4) tally.size (sum lengths) i lt
home_in_before width i p tally (Change runs bytes) lt = refl
home_in_before width i p tally (Shrink n) lt = refl
home_in_before width i p tally (Fold count) lt = refl

same_count : (tally : Tally) (frame : Frame) → Appends frame → (after tally frame).folded ≡ tally.folded
same_count tally (Group lengths bytes) appends = refl
same_count tally (Change runs bytes) appends = refl
same_count tally (Shrink n) appends = absurd appends
same_count tally (Fold count) appends = absurd appends

some_is : (o : Option ℕ) → IsSome o → (place : ℕ) × (o ≡ Some place)
some_is None some = absurd cc
some_is (Some place) some = (place, refl)

module _ {R : Type 0} (format : Format) (form : Encoding R) (image held : List ℕ) (frames : List Frame) (count : ℕ) (records after_records : List R) where
  abbrev shape : Shape
  shape = shape_of format form

  abbrev tally : Tally
  tally = tally_of frames

  -- the record that a live change says
  said : (fs : List Frame) (rs : List R) (i place : ℕ)
      → AreLegal shape fs → IsVectorOf format form image fs rs
      → change_of shape (tally_of fs).folded fs i ≡ Some place
      → slice_get rs i ≡ record_in form image place
  said fs rs i place legal read told =
      let inside = live_inside shape fs i place legal told in
      let where_is = place_is shape fs i ∙ ap (λ o. option_or o (home_of shape fs i)) told in
      let size = read.size in
      sym (read.each i (omega arith)) ∙ ap (option_and_then (record_in form image)) where_is

  -- a Group, or a Change that the fold's count doesn't reach
  pub HomesHold_push : (frame : Frame) → BeginsImage shape image (frames ++ frame ∷ []) → Appends frame → tally.folded ≤ count → count ≤ tally.changes
      → IsVectorOf format form image frames records
      → IsVectorOf format form image (frames ++ frame ∷ []) after_records
      → HomesHold format form held frames count records
      → HomesHold format form held (frames ++ frame ∷ []) count after_records
  HomesHold_push frame begins appends from upto read read' hold i covered since =
      let gate : ℕ = length (text shape frames) in
      let legal = (BeginsImage_before shape image frames frame begins).legal in
      let same : (tally_of (frames ++ frame ∷ [])).folded ≡ tally.folded = ap (λ t. t.folded) (tally_from_push nothing frames frame) ∙ same_count tally frame appends in
      let none = both_none (change_in shape count i gate tally frame) (change_of shape count frames i) (sym (change_push shape count frames frame i) ∙ since) in
      let still : change_of shape (tally_of (frames ++ frame ∷ [])).folded (frames ++ frame ∷ []) i ≡ change_of shape tally.folded frames i =
      ap (λ n. change_of shape n (frames ++ frame ∷ []) i) same ∙ change_push shape tally.folded frames frame i
      ∙ ap (λ o. option_or o (change_of shape tally.folded frames i)) (change_in_past shape tally.folded count i gate tally frame (omega arith) upto ∙ none.0) in
      let live = some_is (change_of shape tally.folded frames i) (subst (λ (o : Option ℕ). IsSome o) still covered) in
      let inside = live_inside shape frames i live.0 legal live.1 in
      let home : home_of shape (frames ++ frame ∷ []) i ≡ home_of shape frames i
      = home_push shape frames frame i
      ∙ ap (λ o. option_or o (home_of shape frames i)) (home_in_before shape.width i gate tally frame inside) in
      ap (option_and_then (record_in form held)) home
      ∙ hold i (subst (λ (o : Option ℕ). IsSome o) still covered) none.1
      ∙ said frames records i live.0 legal read live.1
      ∙ sym (said (frames ++ frame ∷ []) after_records i live.0 begins.legal read' (still ∙ live.1))

-- other bytes that have the same homes
pub HomesHold_same : {R : Type 0} (format : Format) (form : Encoding R) (held other : List ℕ) (frames : List Frame) (count : ℕ) (records : List R)
    → ((i place : ℕ) → home_of (shape_of format form) frames i ≡ Some place → record_in form other place ≡ record_in form held place)
    → HomesHold format form held frames count records
    → HomesHold format form other frames count records
HomesHold_same format form held other frames count records same hold i covered since = at (home_of (shape_of format form) frames i) refl ∙ hold i covered since
  where
    at : (o : Option ℕ) → home_of (shape_of format form) frames i ≡ o → option_and_then (record_in form other) o ≡ option_and_then (record_in form held) o
    at None is = refl
    at (Some place) is = same i place is

-- other home bytes in the frames
pub HomesHold_blanked : {R : Type 0} (format : Format) (form : Encoding R) (held : List ℕ)
    (frames others : List Frame) (count : ℕ) (records : List R)
    → all_blanked frames ≡ all_blanked others → HomesHold format form held frames count records
    → HomesHold format form held others count records
HomesHold_blanked format form held frames others count records same hold i covered since =
    let shape : Shape = shape_of format form in
    let live : change_of shape (tally_of others).folded others i ≡ change_of shape (tally_of frames).folded frames i =
    sym (same_change frames others same shape (tally_of others).folded i) ∙ ap (λ t. change_of shape t.folded frames i) (sym (same_tally frames others same)) in
    ap (option_and_then (record_in form held)) (sym (same_home frames others same shape i))
    ∙ hold i (subst (λ (o : Option ℕ). IsSome o) live covered) (same_change frames others same shape count i ∙ since)
