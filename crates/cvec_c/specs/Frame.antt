-- A frame that stands at a place of an image, as it is told.
use Rattle.std.specs.Prelude.{◌≡◌, ℕ, ◌+◌, List, length, drop}
use Rattle.segment_core.specs.declared.format.Format.{Format}
use Rattle.segment_core.specs.declared.format.Shape.{Shape}
use Rattle.segment_core.specs.Shape.{version_of}
use Rattle.segment_core.specs.Frame.{Frame, frame_head_len, kind_of, payload_of, frame_text}
use Rattle.segment_core.specs.Reading.{BeginsWith, lengths_of, record_count, head_len}
use Rattle.cvec_c.specs.declared.frame.CvecFrame.{CvecFrame}

abbrev pub shape_in : Format → ℕ → Shape
shape_in format width = record { format = format; width = width }

-- a whole open frame of a file of this version and width begins there, and the fields are its own
pub record IsFrameTold (image : List ℕ) (at version width : ℕ) (fields : CvecFrame) : Type 0 where
  pub format : Format
  pub frame : Frame
  pub version_is : version_of format ≡ version
  pub begins : BeginsWith (shape_in format width) (drop at image) frame
  pub kind_is : fields.kind ≡ kind_of frame
  pub payload_len_is : fields.payload_len ≡ length (payload_of format frame)
  pub growths_are : fields.growths ≡ length (lengths_of frame)
  pub records_are : fields.records ≡ record_count frame
  pub first_record_is : fields.first_record ≡ at + frame_head_len + head_len format frame
  pub next_is : fields.next ≡ at + length (frame_text format frame)

-- none does
abbrev pub IsNoFrame : List ℕ → ℕ → ℕ → ℕ → Type 0
IsNoFrame image at version width = (format : Format) → version_of format ≡ version → (frame : Frame) → BeginsWith (shape_in format width) (drop at image) frame → ⊥
