-- One more frame: the text, the tally and the rules.
use Rattle.std.proofs.Common.{◌≡◌, ℕ, ◌+◌, ◌<◌, List, [], ◌∷◌, ◌++◌, length, drop, get_or, refl, sym, ap, ◌∙◌, append_assoc}
use Rattle.std.specs.Prelude.{◌≢◌}
use Rattle.std.specs.List.{flat_map}
use Rattle.std.proofs.lemmas.List.{append-nil, nil_from_length, length-append, flat_map_more, drop_at, drop_more}
use Rattle.segment_core.specs.declared.format.Shape.{Shape}
use Rattle.segment_core.specs.declared.tally.Tally.{Tally}
use Rattle.segment_core.specs.Frame.{Frame, header, frame_text, text}
use Rattle.segment_core.specs.Layout.{IsFrame}
use Rattle.segment_core.specs.Tally.{nothing, after, tally_from, tally_of, MayFollow, AreLegalFrom, AreLegal}
use Rattle.segment_core.specs.Image.{BeginsImage, HasFrames}

pub text_push : (shape : Shape) (frames : List Frame) (frame : Frame) → text shape (frames ++ frame ∷ []) ≡ text shape frames ++ frame_text shape.format frame
text_push shape frames frame = sym (flat_map_more (frame_text shape.format) (header shape) frames frame)

pub append-empty : (bytes more : List ℕ) → length more ≡ 0 → bytes ≡ bytes ++ more
append-empty bytes more none = sym (ap (λ (bs : List ℕ). bytes ++ bs) (nil_from_length more none) ∙ append-nil bytes)

pub length-text : (shape : Shape) (frames : List Frame) → length (text shape frames) ≡ length (header shape) + length (flat_map (frame_text shape.format) frames)
length-text shape frames = length-append (header shape) (flat_map (frame_text shape.format) frames)

pub tally_from_push : (tally : Tally) (frames : List Frame) (frame : Frame) → tally_from tally (frames ++ frame ∷ []) ≡ after (tally_from tally frames) frame
tally_from_push tally [] frame = refl
tally_from_push tally (first ∷ frames) frame = tally_from_push (after tally first) frames frame

pub AreLegalFrom_push : (shape : Shape) (tally : Tally) (frames : List Frame) (frame : Frame)
    → AreLegalFrom shape tally frames → IsFrame shape frame → MayFollow (tally_from tally frames) frame
    → AreLegalFrom shape tally (frames ++ frame ∷ [])
AreLegalFrom_push shape tally [] frame legal whole may = (whole, may, tt)
AreLegalFrom_push shape tally (first ∷ frames) frame legal whole may = (legal.0, legal.1, AreLegalFrom_push shape (after tally first) frames frame legal.2 whole may)

pub AreLegalFrom_before : (shape : Shape) (tally : Tally) (frames : List Frame) (frame : Frame) → AreLegalFrom shape tally (frames ++ frame ∷ []) → AreLegalFrom shape tally frames
AreLegalFrom_before shape tally [] frame legal = tt
AreLegalFrom_before shape tally (first ∷ frames) frame legal = (legal.0, legal.1, AreLegalFrom_before shape (after tally first) frames frame legal.2)

pub AreLegalFrom_last : (shape : Shape) (tally : Tally) (frames : List Frame) (frame : Frame)
    → AreLegalFrom shape tally (frames ++ frame ∷ [])
    → IsFrame shape frame × MayFollow (tally_from tally frames) frame
AreLegalFrom_last shape tally [] frame legal = (legal.0, legal.1)
AreLegalFrom_last shape tally (first ∷ frames) frame legal = AreLegalFrom_last shape (after tally first) frames frame legal.2

-- ---- an image that begins with them

pub Begins_push : (shape : Shape) (image : List ℕ) (frames : List Frame) (frame : Frame) (rest : List ℕ)
    → AreLegal shape frames → IsFrame shape frame → MayFollow (tally_of frames) frame
    → image ≡ text shape frames ++ (frame_text shape.format frame ++ rest)
    → BeginsImage shape image (frames ++ frame ∷ [])
Begins_push shape image frames frame rest legal whole may is = record {
  legal = AreLegalFrom_push shape nothing frames frame legal whole may;
  begins = (rest, is ∙ sym (append_assoc (text shape frames) (frame_text shape.format frame) rest) ∙ ap (λ (bs : List ℕ). bs ++ rest) (sym (text_push shape frames frame)));
}

pub BeginsImage_behind : (shape : Shape) (image : List ℕ) (frames : List Frame) (frame : Frame)
    → BeginsImage shape image (frames ++ frame ∷ [])
    → (rest : List ℕ) × (image ≡ text shape frames ++ (frame_text shape.format frame ++ rest))
BeginsImage_behind shape image frames frame begins =
    let rest : List ℕ = begins.begins.0 in
    (rest, begins.begins.1 ∙ ap (λ (bs : List ℕ). bs ++ rest) (text_push shape frames frame) ∙ append_assoc (text shape frames) (frame_text shape.format frame) rest)

pub BeginsImage_before : (shape : Shape) (image : List ℕ) (frames : List Frame) (frame : Frame) → BeginsImage shape image (frames ++ frame ∷ []) → BeginsImage shape image frames
BeginsImage_before shape image frames frame begins =
    let behind = BeginsImage_behind shape image frames frame begins in
    record { legal = AreLegalFrom_before shape nothing frames frame begins.legal; begins = (frame_text shape.format frame ++ behind.0, behind.1) }

-- ---- and a gate behind them that is closed

pub HasFrames_begins : (shape : Shape) (image : List ℕ) (frames : List Frame) → HasFrames shape image frames → BeginsImage shape image frames
HasFrames_begins shape image frames has = record { legal = has.legal; begins = (has.closed.0 ∷ has.closed.1, has.closed.3) }

pub HasFrames_closed : (shape : Shape) (image : List ℕ) (frames : List Frame)
    → BeginsImage shape image frames → length (text shape frames) < length image
    → get_or image (length (text shape frames)) 0 ≢ 1
    → HasFrames shape image frames
HasFrames_closed shape image frames begins inside closed =
    let gate : ℕ = length (text shape frames) in
    let behind : drop gate image ≡ begins.begins.0 = ap (drop gate) begins.begins.1 ∙ drop_at (text shape frames) begins.begins.0 gate refl in
    record {
      legal = begins.legal;
      closed = (get_or image gate 0, drop (gate + 1) image, closed, begins.begins.1 ∙ ap (λ (bs : List ℕ). text shape frames ++ bs) (sym behind ∙ drop_more image gate 0 inside));
    }
