-- How far a reader has come.
use Rattle.std.specs.Prelude.{◌≡◌, List, length}
use Rattle.segment_core.specs.declared.format.Shape.{Shape}
use Rattle.segment_core.specs.Frame.{Frame, text}
use Rattle.segment_core.specs.Tally.{tally_of}
use Rattle.beside_core.specs.declared.bookmark.Bookmark.{Bookmark}

-- it lies at the gate behind these frames
pub record LiesBehind (shape : Shape) (known : List Frame) (mark : Bookmark) : Type 0 where
  pub shape_is : mark.shape ≡ shape
  pub gate_is : mark.gate ≡ length (text shape known)
  pub tally_is : mark.tally ≡ tally_of known
