-- The frames of an image: the list whose text begins it.
use Rattle.std.specs.Prelude.{◌≡◌, ◌≢◌, ℕ, ◌≤◌, List, ◌∷◌, ◌++◌, length}
use Rattle.segment_core.specs.declared.format.Shape.{Shape}
use Rattle.segment_core.specs.Frame.{Frame, text, open_gate}
use Rattle.segment_core.specs.Tally.{AreLegal}

-- the image begins with the text of these frames, which keep the rules
pub record BeginsImage (shape : Shape) (image : List ℕ) (frames : List Frame) : Type 0 where
  pub legal : AreLegal shape frames
  pub begins : (rest : List ℕ) × (image ≡ text shape frames ++ rest)

-- and a closed gate follows: any byte but the open one
pub record HasFrames (shape : Shape) (image : List ℕ) (frames : List Frame) : Type 0 where
  pub legal : AreLegal shape frames
  pub closed : (gate : ℕ) × (rest : List ℕ) × (gate ≢ open_gate) × (image ≡ text shape frames ++ gate ∷ rest)

-- no longer list begins it
pub record IsLongest (shape : Shape) (image : List ℕ) (frames : List Frame) : Type 0 where
  pub begins : BeginsImage shape image frames
  pub longest : (others : List Frame) → BeginsImage shape image others → length (text shape others) ≤ length (text shape frames)
