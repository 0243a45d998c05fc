-- What a scan answers of an image that has a vector.
use Rattle.std.specs.Prelude.{◌≡◌, ℕ, List, length}
use Rattle.record_core.specs.Bytes.{Encoding}
use Rattle.segment_core.specs.declared.format.Format.{Format}
use Rattle.segment_core.specs.Shape.{version_of, shape_of}
use Rattle.segment_core.specs.Frame.{Frame, text}
use Rattle.segment_core.specs.Tally.{tally_of}
use Rattle.segment_core.specs.Vector.{HasVector}
use Rattle.segment_core.specs.declared.vector.Scanned.{Scanned}

pub record IsScanOf {R : Type 0} (form : Encoding R) (image : List ℕ) (scanned : Scanned R) : Type 0 where
  pub format : Format
  pub frames : List Frame
  pub vector : HasVector format form image frames scanned.records.items
  pub version_is : scanned.version ≡ version_of format
  pub width_is : scanned.width ≡ form.width
  pub frames_are : scanned.frames ≡ length frames
  pub changes_are : scanned.changes ≡ (tally_of frames).changes
  pub folded_is : scanned.folded ≡ (tally_of frames).folded
  pub gate_is : scanned.gate ≡ length (text (shape_of format form) frames)
