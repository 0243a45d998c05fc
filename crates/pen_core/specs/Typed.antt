-- What an image opens to, as records of one type.
use Rattle.std.specs.Prelude.{ℕ, List}
use Rattle.record_core.specs.Bytes.{Encoding}
use Rattle.segment_core.specs.declared.format.Format.{Format}
use Rattle.segment_core.specs.Frame.{Frame}
use Rattle.segment_core.specs.Vector.{HasVector}

-- opening the image gives these records
pub record OpensTo {R : Type 0} (form : Encoding R) (image : List ℕ) (records : List R) : Type 0 where
  pub format : Format
  pub frames : List Frame
  pub vector : HasVector format form image frames records
