-- What the last frame says that says something: behind one more frame, and where it comes from.
use Rattle.std.proofs.Common.{◌≡◌, ℕ, ◌+◌, List, [], ◌∷◌, ◌++◌, length, Option, Some, None, refl, sym, ap, ◌∙◌, arith, inl, inr}
use Rattle.std.specs.Prelude.{◌⊎◌}
use Rattle.std.specs.List.{flat_map}
use Rattle.std.specs.Option.{option_or}
use Rattle.std.proofs.lemmas.List.{length-append}
use Rattle.segment_core.specs.declared.format.Format.{Format}
use Rattle.segment_core.specs.declared.format.Shape.{Shape}
use Rattle.segment_core.specs.declared.tally.Tally.{Tally}
use Rattle.segment_core.specs.Frame.{Frame, header, frame_text, text}
use Rattle.segment_core.specs.Tally.{nothing, after, tally_from, tally_of}
use Rattle.segment_core.specs.Vector.{last_from, home_in, change_in, home_of, change_of, place_of}
use Rattle.segment_core.proofs.Push.{length-text}
pub use Rattle.segment_core.proofs.Push.{tally_from_push}

-- ---- the first of two that says something

pub option_or_assoc : {A : Type 0} (a b c : Option A) → option_or (option_or a b) c ≡ option_or a (option_or b c)
option_or_assoc None b c = refl
option_or_assoc (Some x) b c = refl

pub option_or_none : {A : Type 0} (o : Option A) → option_or o None ≡ o
option_or_none None = refl
option_or_none (Some x) = refl

pub option_or_cases : {A : Type 0} (a b : Option A) (x : A) → option_or a b ≡ Some x → (a ≡ Some x) ⊎ ((a ≡ None) × (b ≡ Some x))
option_or_cases None b x is = inr (refl, is)
option_or_cases (Some y) b x is = inl is

pub both_none : {A : Type 0} (a b : Option A) → option_or a b ≡ None → (a ≡ None) × (b ≡ None)
both_none None b is = (refl, is)
both_none (Some x) b is = absurd cc

pub none_or : {A : Type 0} (o : Option A) → ((x : A) → o ≡ Some x → ⊥) → o ≡ None
none_or None not = refl
none_or (Some x) not = absurd (not x refl)

-- ---- one more frame

pub last_from_push : (says : ℕ → Tally → Frame → Option ℕ) (format : Format) (p : ℕ) (tally : Tally) (frames : List Frame) (frame : Frame)
    → last_from says format p tally (frames ++ frame ∷ [])
    ≡ option_or (says (p + length (flat_map (frame_text format) frames)) (tally_from tally frames) frame) (last_from says format p tally frames)
last_from_push says format p tally [] frame = let here : p + 0 ≡ p = omega arith in sym (option_or_none (says (p + 0) tally frame) ∙ ap (λ n. says n tally frame) here)
last_from_push says format p tally (first ∷ frames) frame =
    let n : ℕ = p + length (frame_text format first) in
    let all = length-append (frame_text format first) (flat_map (frame_text format) frames) in
    let at : n + length (flat_map (frame_text format) frames) ≡ p + length (flat_map (frame_text format) (first ∷ frames)) = omega arith in
    let rest : Option ℕ = last_from says format n (after tally first) frames in
    ap (λ o. option_or o (says p tally first)) (last_from_push says format n (after tally first) frames frame)
    ∙ option_or_assoc (says (n + length (flat_map (frame_text format) frames)) (tally_from (after tally first) frames) frame) rest (says p tally first)
    ∙ ap (λ m. option_or (says m (tally_from (after tally first) frames) frame) (option_or rest (says p tally first))) at

-- where the gate behind a file's frames stands
pub gate_is : (shape : Shape) (frames : List Frame) → length (header shape) + length (flat_map (frame_text shape.format) frames) ≡ length (text shape frames)
gate_is shape frames = sym (length-text shape frames)

-- frames of a file
pub last_push : (says : ℕ → Tally → Frame → Option ℕ) (shape : Shape) (frames : List Frame) (frame : Frame)
    → last_from says shape.format (length (header shape)) nothing (frames ++ frame ∷ [])
    ≡ option_or (says (length (text shape frames)) (tally_of frames) frame) (last_from says shape.format (length (header shape)) nothing frames)
last_push says shape frames frame =
    last_from_push says shape.format (length (header shape)) nothing frames frame
    ∙ ap (λ n. option_or (says n (tally_of frames) frame) (last_from says shape.format (length (header shape)) nothing frames)) (gate_is shape frames)

pub home_push : (shape : Shape) (frames : List Frame) (frame : Frame) (i : ℕ)
    → home_of shape (frames ++ frame ∷ []) i ≡ option_or (home_in shape.width i (length (text shape frames)) (tally_of frames) frame) (home_of shape frames i)
home_push shape frames frame i = last_push (home_in shape.width i) shape frames frame

pub change_push : (shape : Shape) (folded : ℕ) (frames : List Frame) (frame : Frame) (i : ℕ)
    → change_of shape folded (frames ++ frame ∷ []) i ≡ option_or (change_in shape folded i (length (text shape frames)) (tally_of frames) frame) (change_of shape folded frames i)
change_push shape folded frames frame i = last_push (change_in shape folded i) shape frames frame

pub place_is : (shape : Shape) (frames : List Frame) (i : ℕ) → place_of shape frames i ≡ option_or (change_of shape (tally_of frames).folded frames i) (home_of shape frames i)
unfolding place_of
place_is shape frames i = refl

-- behind one more frame, which leaves this fold count
pub place_of_push : (shape : Shape) (folded : ℕ) (frames : List Frame) (frame : Frame) (i : ℕ) → (after (tally_of frames) frame).folded ≡ folded
    → place_of shape (frames ++ frame ∷ []) i
    ≡ option_or
    (option_or (change_in shape folded i (length (text shape frames)) (tally_of frames) frame) (change_of shape folded frames i))
    (option_or (home_in shape.width i (length (text shape frames)) (tally_of frames) frame) (home_of shape frames i))
place_of_push shape folded frames frame i is =
    let count : (tally_of (frames ++ frame ∷ [])).folded ≡ folded = ap (λ t. t.folded) (tally_from_push nothing frames frame) ∙ is in
    place_is shape (frames ++ frame ∷ []) i
    ∙ ap (λ n. option_or (change_of shape n (frames ++ frame ∷ []) i) (home_of shape (frames ++ frame ∷ []) i)) count
    ∙ ap (λ o. option_or o (home_of shape (frames ++ frame ∷ []) i)) (change_push shape folded frames frame i)
    ∙ ap (λ o. option_or (option_or (change_in shape folded i (length (text shape frames)) (tally_of frames) frame) (change_of shape folded frames i)) o) (home_push shape frames frame i)

-- ---- frames that say the same

-- what one frame says is the same, wherever it stands
pub last_from_same : (says others : ℕ → Tally → Frame → Option ℕ) (format : Format) (p : ℕ) (tally : Tally) (frames : List Frame)
    → ((q : ℕ) (t : Tally) (frame : Frame) → says q t frame ≡ others q t frame) → last_from says format p tally frames ≡ last_from others format p tally frames
last_from_same says others format p tally [] same = refl
last_from_same says others format p tally (frame ∷ frames) same =
    ap (λ o. option_or o (says p tally frame)) (last_from_same says others format (p + length (frame_text format frame)) (after tally frame) frames same)
    ∙ ap (λ o. option_or (last_from others format (p + length (frame_text format frame)) (after tally frame) frames) o) (same p tally frame)
