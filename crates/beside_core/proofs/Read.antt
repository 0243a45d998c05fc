-- Frames as they were read, beside the frames as they were written.
use Rattle.std.specs.Prelude.{◌≡◌, ◌⊎◌, ℕ, ◌+◌, ◌<◌, slice_get, slice_index, List, [], ◌∷◌, length, sum}
use Rattle.std.specs.List.{flat_map}
use Rattle.segment_core.specs.declared.format.Shape.{Shape}
use Rattle.segment_core.specs.Frame.{Frame, Group, Change, Shrink, Fold, frame_text}
use Rattle.segment_core.specs.Raw.{cells_in}
use Rattle.beside_core.specs.MayDiffer.{WillChange, size_after, MayDiffer}

-- one frame: home bytes may differ where a later change covers the position
abbrev pub IsReadFrame : ℕ → ℕ → List Frame → Frame → Frame → Type 0
IsReadFrame width size later (Group lengths bytes) read = (read_bytes : List ℕ) × (read ≡ Group lengths read_bytes)
    × ((i : ℕ) → i < sum lengths → (slice_get (cells_in width (sum lengths) read_bytes) i ≡ slice_get (cells_in width (sum lengths) bytes) i) ⊎ WillChange (size + i) later) ×
    (length read_bytes ≡ length bytes)
IsReadFrame width size later (Change runs bytes) read = read ≡ Change runs bytes
IsReadFrame width size later (Shrink n) read = read ≡ Shrink n
IsReadFrame width size later (Fold count) read = read ≡ Fold count

abbrev pub AreRead : ℕ → ℕ → List Frame → List Frame → Type 0
AreRead width size [] read = read ≡ []
AreRead width size (frame ∷ frames) read = (one : Frame) × (rest : List Frame) × (read ≡ one ∷ rest) × IsReadFrame width size frames frame one × AreRead width (size_after size frame) frames rest

-- two vectors are the same but where a later change covers the position
pub record AgreeUntilChanged (frames : List Frame) (cells read : List (List ℕ)) : Type 0 where
  pub long : length read ≡ length cells
  pub each : (i : ℕ) → i < length cells → (slice_get read i ≡ slice_get cells i) ⊎ WillChange i frames

-- these bytes are the text of the frames, but for those that may differ
pub record AreTextThatMayDiffer (shape : Shape) (size : ℕ) (frames : List Frame) (got : List ℕ) : Type 0 where
  pub long : length got ≡ length (flat_map (frame_text shape.format) frames)
  pub each : (j : ℕ) → j < length got → (slice_index got j ≡ slice_index (flat_map (frame_text shape.format) frames) j) ⊎ MayDiffer shape size frames j

-- they are the text of frames that were read
pub record AreTextOfRead (shape : Shape) (size : ℕ) (frames : List Frame) (got : List ℕ) : Type 0 where
  pub reads : List Frame
  pub text : got ≡ flat_map (frame_text shape.format) reads
  pub are : AreRead shape.width size frames reads
