-- A walk over the frames of a file by their first bytes.
use Rattle.std.specs.Prelude.{◌≡◌, ◌<◌, ◌^◌, ℕ, true, List, [], ◌∷◌, length, drop, Some, Result, Ok, Err}
use Rattle.segment_core.specs.declared.fault.ScanFault.{ScanFault}
use Rattle.segment_core.specs.declared.format.Shape.{Shape}
use Rattle.segment_core.specs.Frame.{Frame}
use Rattle.segment_core.specs.Image.{HasFrames}
use Rattle.segment_core.specs.Fault.{IsSound, IsHeaderFault, frame_fault, is_closed}
use Rattle.stat_core.specs.declared.fault.StatFault.{StatFault}
use Rattle.stat_core.specs.declared.fault.StatFault.TheVariants.{Disk, Header, Frame as FrameFault}
use Rattle.stat_core.specs.declared.outline.Outline.{Outline}
use Rattle.stat_core.specs.declared.summary.Summary.{Summary}
use Rattle.stat_core.specs.Outline.{IsOutlined, MayStand}
use Rattle.stat_core.specs.Summary.{summary_of, tally_in, summary_of_frames}

-- these frames stand in the image one behind the other, the newest first
abbrev pub AreOutlined : Shape → List ℕ → List Outline → Type 0
AreOutlined shape image [] = Unit {0}
AreOutlined shape image (outline ∷ earlier) =
    IsOutlined shape (drop (summary_of shape (length image) earlier).gate image) outline
    × MayStand (tally_in (summary_of shape (length image) earlier)) outline
    × AreOutlined shape image earlier

-- the summary counts the frames before its gate
pub record Counts (shape : Shape) (image : List ℕ) (s : Summary) : Type 0 where
  pub outlines : List Outline
  pub stand : AreOutlined shape image outlines
  pub are : s ≡ summary_of shape (length image) outlines

-- and a closed gate ends them
pub record IsSummaryOf (image : List ℕ) (s : Summary) : Type 0 where
  pub shape : Shape
  pub wide : 0 < shape.width
  pub sound : IsSound shape.width shape.format image
  pub counts : Counts shape image s
  pub closed : is_closed (drop s.gate image) ≡ true

-- what is at fault at the gate, behind sound frames
pub record IsFaultBehind (image : List ℕ) (fault : ScanFault) (s : Summary) : Type 0 where
  pub shape : Shape
  pub wide : 0 < shape.width
  pub sound : IsSound shape.width shape.format image
  pub counts : Counts shape image s
  pub fails : frame_fault shape s.gate (tally_in s) (drop s.gate image) ≡ Some fault

abbrev pub IsStatRefusal : List ℕ → StatFault → Type 0
IsStatRefusal image (Disk fault) = Unit {0}
IsStatRefusal image (Header fault) = IsHeaderFault image fault
IsStatRefusal image (FrameFault fault before) = IsFaultBehind image fault before

-- A file that has frames by the format's own definition is told of by these, and is refused by the disk alone.
abbrev pub TellsFrames : List ℕ → Result Summary StatFault → Type 0
TellsFrames image (Ok s) = (shape : Shape) (frames : List Frame) → 0 < shape.width → shape.width < 2 ^ 16 → HasFrames shape image frames → s ≡ summary_of_frames shape (length image) frames
TellsFrames image (Err (Disk fault)) = Unit {0}
TellsFrames image (Err (Header fault)) = (shape : Shape) (frames : List Frame) → 0 < shape.width → shape.width < 2 ^ 16 → HasFrames shape image frames → ⊥
TellsFrames image (Err (FrameFault fault before)) = (shape : Shape) (frames : List Frame) → 0 < shape.width → shape.width < 2 ^ 16 → HasFrames shape image frames → ⊥
