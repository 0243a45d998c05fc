-- What is read from bytes that hold frames is those frames and their vector.
use Rattle.std.proofs.Common.{◌≡◌, ℕ, List, ◌++◌, sym, ap, ◌∙◌}
use Rattle.segment_core.specs.declared.format.Shape.{Shape}
use Rattle.segment_core.specs.Frame.{Frame, frame_text}
use Rattle.segment_core.specs.Layout.{IsFrame}
use Rattle.segment_core.specs.Blanked.{all_blanked}
use Rattle.segment_core.specs.Parsed.{frames_before, vector_before}
use Rattle.segment_core.proofs.Payload.{frame_in-frame_text}
use Rattle.segment_core.proofs.Parsed.{frames_before-text, vector_before-text}
use Rattle.pen_core.specs.Held.{HoldsFrames, gate_of}
use Rattle.pen_core.specs.Vectors.{frame_at, blanked_before}
use Rattle.pen_core.proofs.Again.{gate_behind}

pub frame_at-text : (shape : Shape) (frame : Frame) (rest : List ℕ) → IsFrame shape frame
    → frame_at shape (frame_text shape.format frame ++ rest) ≡ frame
unfolding frame_at
frame_at-text shape frame rest whole = frame_in-frame_text shape frame rest whole

-- what a pen is seen as, read from bytes that hold it
pub record SeenAs (shape : Shape) (gate : ℕ) (frames : List Frame) (vector : List (List ℕ)) (bytes : List ℕ) : Type 0 where
  pub frames_are : blanked_before shape gate bytes ≡ frames
  pub vector_is : vector_before shape gate bytes ≡ vector

pub seen_as : (shape : Shape) (gate : ℕ) (frames : List Frame) (vector : List (List ℕ)) (bytes : List ℕ)
    → gate ≡ gate_of shape frames → HoldsFrames shape frames vector bytes → SeenAs shape gate frames vector bytes
seen_as shape gate frames vector bytes is has =
    let at = is ∙ sym (gate_behind shape has.found frames has.alike) in
    record {
      frames_are =
          ap (λ n. all_blanked (frames_before shape n bytes)) at
          ∙ ap all_blanked (frames_before-text shape bytes has.found has.begins) ∙ has.alike;
      vector_is = ap (λ n. vector_before shape n bytes) at ∙ vector_before-text shape.format shape.width bytes has.found vector has.begins has.read;
    }
