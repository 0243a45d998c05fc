-- What a pen is seen as.
use Rattle.std.specs.Prelude.{ℕ, Bool, List, Option}
use Rattle.segment_core.specs.declared.format.Shape.{Shape}
use Rattle.segment_core.specs.declared.tally.Tally.{Tally}
use Rattle.segment_core.specs.Frame.{Frame}
use Rattle.pen_core.specs.declared.step.PenStep.{PenStep}
use Rattle.pen_core.specs.declared.stage.FoldStage.{FoldStage}

-- a frame that is being committed, and the device call that comes next
pub record JobOf : Type 0 where
  pub frame : Frame
  pub step : PenStep

-- a write of home bytes
pub record HomeWrite : Type 0 where
  pub place : ℕ
  pub bytes : List ℕ

-- a fold: how many changes it counts, the home writes that are left, and what comes next
pub record FoldOf : Type 0 where
  pub count : ℕ
  pub left : List HomeWrite
  pub stage : FoldStage

-- The disk's file has frames that are these but for their home bytes, and this vector, each record as its bytes; a
-- job in hand doesn't count. These two speak of bytes. The others are what the pen counts itself: what the frames
-- leave, where the closed gate behind them stands, how many bytes a frame may take, and how many runs may be entered
-- among the live ones, with no memory asked for.
pub record PenOf (D : Type 0) : Type 0 where
  pub disk : D
  pub shape : Shape
  pub frames : List Frame
  pub vector : List (List ℕ)
  pub job : Option JobOf
  pub fold : Option FoldOf
  pub broken : Bool
  pub tally : Tally
  pub gate : ℕ
  pub room : ℕ
  pub places : ℕ
