-- The summary of frames: where they end, what they leave, one more of them, and another length of the file.
use Rattle.std.proofs.Common.{◌≡◌, ℕ, List, [], ◌∷◌, ◌++◌, length, refl, ap, ◌∙◌, arith}
use Rattle.std.specs.List.{flat_map}
use Rattle.std.proofs.lemmas.List.{length-append}
use Rattle.segment_core.specs.declared.format.Shape.{Shape}
use Rattle.segment_core.specs.Frame.{Frame, header, frame_text, text}
use Rattle.segment_core.specs.Tally.{nothing, tally_of, AreLegal}
use Rattle.stat_core.specs.declared.outline.Outline.{Outline}
use Rattle.stat_core.specs.declared.outline.Outline.TheVariants.{Group, Change, Shrink, Fold}
use Rattle.stat_core.specs.declared.summary.Summary.{Summary}
use Rattle.stat_core.specs.Outline.{outline_of}
use Rattle.stat_core.specs.Summary.{begun, grown, counted_from, summary_of_frames, tally_in}
use Rattle.stat_core.proofs.OfFrames.{counted_push, gate_counted, tally_counted}

pub gate_of_frames : (shape : Shape) (bytes : ℕ) (frames : List Frame) → AreLegal shape frames → (summary_of_frames shape bytes frames).gate ≡ length (text shape frames)
gate_of_frames shape bytes frames legal =
    let head : length (header shape) ≡ 11 = refl in
    omega (arith, head, gate_counted shape (begun shape bytes) nothing frames legal, length-append (header shape) (flat_map (frame_text shape.format) frames))

pub tally_of_frames : (shape : Shape) (bytes : ℕ) (frames : List Frame) → tally_in (summary_of_frames shape bytes frames) ≡ tally_of frames
tally_of_frames shape bytes frames = tally_counted shape (begun shape bytes) frames

pub summary_push : (shape : Shape) (bytes : ℕ) (frames : List Frame) (frame : Frame)
    → summary_of_frames shape bytes (frames ++ frame ∷ []) ≡ grown shape (summary_of_frames shape bytes frames) (outline_of frame)
summary_push shape bytes frames frame = counted_push shape (begun shape bytes) frames frame

-- ---- another length

abbrev pub with_bytes : Summary → ℕ → Summary
with_bytes s bytes = record s { bytes = bytes }

grown_with_bytes : (shape : Shape) (s : Summary) (outline : Outline) (bytes : ℕ) → with_bytes (grown shape s outline) bytes ≡ grown shape (with_bytes s bytes) outline
grown_with_bytes shape s (Group growths records) bytes = refl
grown_with_bytes shape s (Change runs records) bytes = refl
grown_with_bytes shape s (Shrink n) bytes = refl
grown_with_bytes shape s (Fold count) bytes = refl

counted_with_bytes : (shape : Shape) (s : Summary) (frames : List Frame) (bytes : ℕ) → with_bytes (counted_from shape s frames) bytes ≡ counted_from shape (with_bytes s bytes) frames
counted_with_bytes shape s [] bytes = refl
counted_with_bytes shape s (frame ∷ frames) bytes =
    counted_with_bytes shape (grown shape s (outline_of frame)) frames bytes
    ∙ ap (λ t. counted_from shape t frames) (grown_with_bytes shape s (outline_of frame) bytes)

pub frames_with_bytes : (shape : Shape) (old bytes : ℕ) (frames : List Frame) → with_bytes (summary_of_frames shape old frames) bytes ≡ summary_of_frames shape bytes frames
frames_with_bytes shape old bytes frames = counted_with_bytes shape (begun shape old) frames bytes
