-- Frames replayed one behind the other: each change as it comes, and a fold is nothing.
use Rattle.std.specs.Prelude.{ℕ, List, [], ◌∷◌}
use Rattle.segment_core.specs.Frame.{Frame}
use Rattle.segment_core.specs.Raw.{after_frame}

-- what the frames make of a vector, each record as its bytes
abbrev pub replayed : ℕ → List (List ℕ) → List Frame → List (List ℕ)
replayed width cells [] = cells
replayed width cells (frame ∷ frames) = replayed width (after_frame width cells frame) frames

-- the vector that frames leave
abbrev pub vector_left : ℕ → List Frame → List (List ℕ)
vector_left width frames = replayed width [] frames
