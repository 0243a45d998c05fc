-- The first frames of a file, counted by a summary.
use Rattle.std.specs.Prelude.{◌≡◌, ℕ, ◌≤◌, List, ◌++◌, Option, Some, None}
use Rattle.segment_core.specs.declared.format.Shape.{Shape}
use Rattle.segment_core.specs.Frame.{Frame}
use Rattle.stat_core.specs.Summary.{summary_of_frames}
use Rattle.stat_core.specs.declared.summary.Summary.{Summary}

-- it counts the first of these frames
pub record CountsFirst (shape : Shape) (all : List Frame) (s : Summary) : Type 0 where
  pub done : List Frame
  pub rest : List Frame
  pub are : all ≡ done ++ rest
  pub counts : s ≡ summary_of_frames shape s.bytes done

-- it counts all that the file had at one moment between two
pub record CountsAll (shape : Shape) (frames : ℕ → List Frame) (from to : ℕ) (s : Summary) : Type 0 where
  pub moment : ℕ
  pub begun : from ≤ moment
  pub until : moment ≤ to
  pub counts : s ≡ summary_of_frames shape s.bytes (frames moment)

-- what a look at one gate finds: that it ends the frames, or one frame more
abbrev pub CountsOn : Shape → (ℕ → List Frame) → ℕ → ℕ → Summary → Option Summary → Type 0
CountsOn shape frames from to s None = CountsAll shape frames from to s
CountsOn shape frames from to s (Some more) = CountsFirst shape (frames to) more
