-- What reads no home bytes is the same for frames that differ in nothing else.
use Rattle.std.proofs.Common.{◌≡◌, ℕ, ◌+◌, ◌*◌, ◌≤◌, List, [], ◌∷◌, length, Option, refl, sym, ap, subst, ◌∙◌, arith, replicate}
use Rattle.std.specs.List.{flat_map}
use Rattle.std.specs.Option.{option_or}
use Rattle.std.proofs.lemmas.List.{length-append, length-replicate}
use Rattle.segment_core.specs.declared.format.Format.{Format}
use Rattle.segment_core.specs.declared.format.Shape.{Shape}
use Rattle.segment_core.specs.declared.tally.Tally.{Tally}
use Rattle.segment_core.specs.Shape.{limit_of}
use Rattle.segment_core.specs.Frame.{Frame, Group, Change, Shrink, Fold, header, payload_of, frame_text, text}
use Rattle.segment_core.specs.Layout.{IsFrame}
use Rattle.segment_core.specs.Tally.{nothing, after, tally_from, tally_of, MayFollow, AreLegalFrom, AreLegal}
use Rattle.segment_core.specs.Vector.{last_from, home_in, change_in, home_of, change_of, place_of}
use Rattle.segment_core.specs.Blanked.{blanked, all_blanked}
use Rattle.segment_core.proofs.Push.{length-text}
use Rattle.segment_core.proofs.FrameParts.{length-payload_of}
use Rattle.segment_core.proofs.Payload.{length-frame_text}
use Rattle.segment_core.proofs.LastFrom.{place_is}

-- ---- one frame

pub blanked-blanked : (frame : Frame) → blanked (blanked frame) ≡ blanked frame
blanked-blanked (Group lengths bytes) = ap (λ n. Group lengths (replicate n 0)) (length-replicate (length bytes) 0)
blanked-blanked (Change runs bytes) = refl
blanked-blanked (Shrink n) = refl
blanked-blanked (Fold count) = refl

length-payload_of-blanked : (format : Format) (frame : Frame) → length (payload_of format (blanked frame)) ≡ length (payload_of format frame)
length-payload_of-blanked format (Group lengths bytes) =
    length-payload_of format (Group lengths (replicate (length bytes) 0))
    ∙ ap (λ n. 4 + length lengths * 4 + n) (length-replicate (length bytes) 0)
    ∙ sym (length-payload_of format (Group lengths bytes))
length-payload_of-blanked format (Change runs bytes) = refl
length-payload_of-blanked format (Shrink n) = refl
length-payload_of-blanked format (Fold count) = refl

pub length-frame_text-blanked : (format : Format) (frame : Frame) → length (frame_text format (blanked frame)) ≡ length (frame_text format frame)
length-frame_text-blanked format frame = length-frame_text format (blanked frame) ∙ ap (λ n. 6 + n) (length-payload_of-blanked format frame) ∙ sym (length-frame_text format frame)

pub after-blanked : (tally : Tally) (frame : Frame) → after tally (blanked frame) ≡ after tally frame
after-blanked tally (Group lengths bytes) = refl
after-blanked tally (Change runs bytes) = refl
after-blanked tally (Shrink n) = refl
after-blanked tally (Fold count) = refl

home_in-blanked : (width i p : ℕ) (tally : Tally) (frame : Frame) → home_in width i p tally (blanked frame) ≡ home_in width i p tally frame
home_in-blanked width i p tally (Group lengths bytes) = refl
home_in-blanked width i p tally (Change runs bytes) = refl
home_in-blanked width i p tally (Shrink n) = refl
home_in-blanked width i p tally (Fold count) = refl

change_in-blanked : (shape : Shape) (folded i p : ℕ) (tally : Tally) (frame : Frame) → change_in shape folded i p tally (blanked frame) ≡ change_in shape folded i p tally frame
change_in-blanked shape folded i p tally (Group lengths bytes) = refl
change_in-blanked shape folded i p tally (Change runs bytes) = refl
change_in-blanked shape folded i p tally (Shrink n) = refl
change_in-blanked shape folded i p tally (Fold count) = refl

pub IsFrame-blanked : (shape : Shape) (frame : Frame) → IsFrame shape frame → IsFrame shape (blanked frame)
IsFrame-blanked shape (Group lengths bytes) whole = record {
  wide = whole.wide;
  small = subst (λ n. n ≤ limit_of shape.format) (sym (length-payload_of-blanked shape.format (Group lengths bytes))) whole.small;
  layout = (whole.layout.0, whole.layout.1, length-replicate (length bytes) 0 ∙ whole.layout.2);
}
IsFrame-blanked shape (Change runs bytes) whole = whole
IsFrame-blanked shape (Shrink n) whole = whole
IsFrame-blanked shape (Fold count) whole = whole

pub blanked-IsFrame : (shape : Shape) (frame : Frame) → IsFrame shape (blanked frame) → IsFrame shape frame
blanked-IsFrame shape (Group lengths bytes) whole = record {
  wide = whole.wide;
  small = subst (λ n. n ≤ limit_of shape.format) (length-payload_of-blanked shape.format (Group lengths bytes)) whole.small;
  layout = (whole.layout.0, whole.layout.1, sym (length-replicate (length bytes) 0) ∙ whole.layout.2);
}
blanked-IsFrame shape (Change runs bytes) whole = whole
blanked-IsFrame shape (Shrink n) whole = whole
blanked-IsFrame shape (Fold count) whole = whole

pub MayFollow-blanked : (tally : Tally) (frame : Frame) → MayFollow tally frame → MayFollow tally (blanked frame)
MayFollow-blanked tally (Group lengths bytes) may = record { ordered = may.ordered; inside = may.inside; folded = may.folded; counted = may.counted; short = may.short }
MayFollow-blanked tally (Change runs bytes) may = may
MayFollow-blanked tally (Shrink n) may = may
MayFollow-blanked tally (Fold count) may = may

pub blanked-MayFollow : (tally : Tally) (frame : Frame) → MayFollow tally (blanked frame) → MayFollow tally frame
blanked-MayFollow tally (Group lengths bytes) may = record { ordered = may.ordered; inside = may.inside; folded = may.folded; counted = may.counted; short = may.short }
blanked-MayFollow tally (Change runs bytes) may = may
blanked-MayFollow tally (Shrink n) may = may
blanked-MayFollow tally (Fold count) may = may

-- ---- many

pub all_blanked-all_blanked : (frames : List Frame) → all_blanked (all_blanked frames) ≡ all_blanked frames
all_blanked-all_blanked [] = refl
all_blanked-all_blanked (frame ∷ frames) =
    ap (λ f. f ∷ all_blanked (all_blanked frames)) (blanked-blanked frame)
    ∙ ap (λ (fs : List Frame). blanked frame ∷ fs) (all_blanked-all_blanked frames)

length-frames-blanked : (format : Format) (frames : List Frame) → length (flat_map (frame_text format) (all_blanked frames)) ≡ length (flat_map (frame_text format) frames)
length-frames-blanked format [] = refl
length-frames-blanked format (frame ∷ frames) =
    let a = length-append (frame_text format (blanked frame)) (flat_map (frame_text format) (all_blanked frames)) in
    let b = length-append (frame_text format frame) (flat_map (frame_text format) frames) in
    let c = length-frame_text-blanked format frame in
    let d = length-frames-blanked format frames in
    omega arith

-- the gate behind them
pub length-text-blanked : (shape : Shape) (frames : List Frame) → length (text shape (all_blanked frames)) ≡ length (text shape frames)
length-text-blanked shape frames = length-text shape (all_blanked frames) ∙ ap (λ n. length (header shape) + n) (length-frames-blanked shape.format frames) ∙ sym (length-text shape frames)

pub tally_from-blanked : (tally : Tally) (frames : List Frame) → tally_from tally (all_blanked frames) ≡ tally_from tally frames
tally_from-blanked tally [] = refl
tally_from-blanked tally (frame ∷ frames) = ap (λ t. tally_from t (all_blanked frames)) (after-blanked tally frame) ∙ tally_from-blanked (after tally frame) frames

pub last_from-blanked : (says : ℕ → Tally → Frame → Option ℕ) (format : Format) (p : ℕ) (tally : Tally)
    (frames : List Frame)
    → ((q : ℕ) (t : Tally) (frame : Frame) → says q t (blanked frame) ≡ says q t frame)
    → last_from says format p tally (all_blanked frames) ≡ last_from says format p tally frames
last_from-blanked says format p tally [] same = refl
last_from-blanked says format p tally (frame ∷ frames) same =
    ap (λ o. option_or (last_from says format (p + length (frame_text format (blanked frame))) (after tally (blanked frame)) (all_blanked frames)) o) (same p tally frame)
    ∙ ap (λ o. option_or o (says p tally frame)) (
    ap (λ n. last_from says format (p + n) (after tally (blanked frame)) (all_blanked frames)) (length-frame_text-blanked format frame)
    ∙ ap (λ t. last_from says format (p + length (frame_text format frame)) t (all_blanked frames)) (after-blanked tally frame)
    ∙ last_from-blanked says format (p + length (frame_text format frame)) (after tally frame) frames same)

pub home_of-blanked : (shape : Shape) (frames : List Frame) (i : ℕ) → home_of shape (all_blanked frames) i ≡ home_of shape frames i
home_of-blanked shape frames i = last_from-blanked (home_in shape.width i) shape.format (length (header shape)) nothing frames (home_in-blanked shape.width i)

pub change_of-blanked : (shape : Shape) (folded : ℕ) (frames : List Frame) (i : ℕ) → change_of shape folded (all_blanked frames) i ≡ change_of shape folded frames i
change_of-blanked shape folded frames i = last_from-blanked (change_in shape folded i) shape.format (length (header shape)) nothing frames (change_in-blanked shape folded i)

pub place_of-blanked : (shape : Shape) (frames : List Frame) (i : ℕ) → place_of shape (all_blanked frames) i ≡ place_of shape frames i
place_of-blanked shape frames i =
    place_is shape (all_blanked frames) i
    ∙ ap (λ t. option_or (change_of shape t.folded (all_blanked frames) i) (home_of shape (all_blanked frames) i)) (tally_from-blanked nothing frames)
    ∙ ap (λ o. option_or o (home_of shape (all_blanked frames) i)) (change_of-blanked shape (tally_of frames).folded frames i)
    ∙ ap (λ o. option_or (change_of shape (tally_of frames).folded frames i) o) (home_of-blanked shape frames i)
    ∙ sym (place_is shape frames i)

pub AreLegalFrom-blanked : (shape : Shape) (tally : Tally) (frames : List Frame) → AreLegalFrom shape tally frames → AreLegalFrom shape tally (all_blanked frames)
AreLegalFrom-blanked shape tally [] legal = tt
AreLegalFrom-blanked shape tally (frame ∷ frames) legal = (
  IsFrame-blanked shape frame legal.0,
  MayFollow-blanked tally frame legal.1,
  subst (λ t. AreLegalFrom shape t (all_blanked frames)) (sym (after-blanked tally frame))
      (AreLegalFrom-blanked shape (after tally frame) frames legal.2),
)

pub blanked-AreLegalFrom : (shape : Shape) (tally : Tally) (frames : List Frame) → AreLegalFrom shape tally (all_blanked frames) → AreLegalFrom shape tally frames
blanked-AreLegalFrom shape tally [] legal = tt
blanked-AreLegalFrom shape tally (frame ∷ frames) legal = (
  blanked-IsFrame shape frame legal.0,
  blanked-MayFollow tally frame legal.1,
  blanked-AreLegalFrom shape (after tally frame) frames
      (subst (λ t. AreLegalFrom shape t (all_blanked frames)) (after-blanked tally frame) legal.2),
)

-- ---- frames that differ in home bytes alone

module _ (frames others : List Frame) (same : all_blanked frames ≡ all_blanked others) where
  pub same_tally : tally_of frames ≡ tally_of others
  same_tally = sym (tally_from-blanked nothing frames) ∙ ap tally_of same ∙ tally_from-blanked nothing others

  pub same_gate : (shape : Shape) → length (text shape frames) ≡ length (text shape others)
  same_gate shape = sym (length-text-blanked shape frames) ∙ ap (λ (fs : List Frame). length (text shape fs)) same ∙ length-text-blanked shape others

  pub same_home : (shape : Shape) (i : ℕ) → home_of shape frames i ≡ home_of shape others i
  same_home shape i = sym (home_of-blanked shape frames i) ∙ ap (λ (fs : List Frame). home_of shape fs i) same ∙ home_of-blanked shape others i

  pub same_change : (shape : Shape) (folded i : ℕ) → change_of shape folded frames i ≡ change_of shape folded others i
  same_change shape folded i = sym (change_of-blanked shape folded frames i) ∙ ap (λ (fs : List Frame). change_of shape folded fs i) same ∙ change_of-blanked shape folded others i

  pub same_place : (shape : Shape) (i : ℕ) → place_of shape frames i ≡ place_of shape others i
  same_place shape i = sym (place_of-blanked shape frames i) ∙ ap (λ (fs : List Frame). place_of shape fs i) same ∙ place_of-blanked shape others i

  pub same_legal : (shape : Shape) → AreLegal shape frames → AreLegal shape others
  same_legal shape legal = blanked-AreLegalFrom shape nothing others (subst (λ fs. AreLegalFrom shape nothing fs) same (AreLegalFrom-blanked shape nothing frames legal))
