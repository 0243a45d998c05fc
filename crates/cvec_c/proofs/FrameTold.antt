-- A frame as C is told of it, by what a reader answers.
use Rattle.std.proofs.Common.{◌≡◌, ℕ, ◌+◌, ◌-◌, ◌*◌, List, length, drop, subst, ap, ◌∙◌, arith}
use Rattle.segment_core.specs.declared.format.Shape.{Shape}
use Rattle.segment_core.specs.Shape.{version_of}
use Rattle.segment_core.specs.Frame.{Frame, kind_of, payload_of}
use Rattle.segment_core.specs.Reading.{BeginsWith, lengths_of, record_bytes_of, record_count}
use Rattle.segment_core.proofs.FrameParts.{length-payload_of, records_filled}
use Rattle.segment_core.proofs.Payload.{length-frame_text}
use Rattle.cvec_c.specs.declared.frame.CvecFrame.{CvecFrame}
use Rattle.cvec_c.specs.Frame.{shape_in, IsFrameTold}

pub frame_told : (image : List ℕ) (at version width : ℕ) (shape : Shape) (frame : Frame) (fields : CvecFrame)
    → version_of shape.format ≡ version → shape.width ≡ width
    → BeginsWith shape (drop at image) frame
    → fields.kind ≡ kind_of frame → fields.payload_len ≡ length (payload_of shape.format frame) → fields.growths ≡ length (lengths_of frame) → fields.records ≡ record_count frame
    → fields.next ≡ at + 6 + length (payload_of shape.format frame) → fields.first_record ≡ fields.next - record_count frame * width → IsFrameTold image at version width fields
frame_told image at version width shape frame fields version_is width_is begins kind payload growths records next first =
    let parts = length-payload_of shape.format frame in
    let filled : length (record_bytes_of frame) ≡ record_count frame * width = records_filled shape frame begins.whole.layout ∙ ap (λ w. record_count frame * w) width_is in
    let whole = length-frame_text shape.format frame in
    record {
      format = shape.format;
      frame = frame;
      version_is = version_is;
      begins = subst (λ w. BeginsWith (shape_in shape.format w) (drop at image) frame) width_is begins;
      kind_is = kind;
      payload_len_is = payload;
      growths_are = growths;
      records_are = records;
      first_record_is = omega arith;
      next_is = omega arith;
    }
