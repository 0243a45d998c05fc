-- What bytes say of a file whose records stand as their bytes: the frames but for home bytes, and the vector.
use Rattle.std.specs.Prelude.{◌≡◌, ℕ, ◌+◌, ◌<◌, ◌≤◌, List, length, Option, Some, None, nat_lt, if◌then◌else◌}
use Rattle.segment_core.specs.declared.format.Shape.{Shape}
use Rattle.segment_core.specs.declared.tally.Tally.{Tally}
use Rattle.segment_core.specs.Frame.{Frame, header, text}
use Rattle.segment_core.specs.Tally.{nothing, tally_of}
use Rattle.segment_core.specs.Image.{BeginsImage}
use Rattle.segment_core.specs.Vector.{HasVector, IsVectorOf, last_from, change_in, home_of}
use Rattle.segment_core.specs.Blanked.{all_blanked}
use Rattle.segment_core.specs.Raw.{raw}

-- Opening the image gives this vector, in frames that are these but for their home bytes.
pub record Opens (shape : Shape) (frames : List Frame) (vector : List (List ℕ)) (image : List ℕ) : Type 0 where
  pub found : List Frame
  pub alike : all_blanked found ≡ frames
  pub opened : HasVector shape.format (raw shape.width) image found vector

-- The bytes begin with such frames, which leave this vector; anything may follow.
pub record HoldsFrames (shape : Shape) (frames : List Frame) (vector : List (List ℕ)) (bytes : List ℕ) : Type 0 where
  pub found : List Frame
  pub alike : all_blanked found ≡ frames
  pub begins : BeginsImage shape bytes found
  pub read : IsVectorOf shape.format (raw shape.width) bytes found vector

-- the place of the gate behind these frames
abbrev pub gate_of : Shape → List Frame → ℕ
gate_of shape frames = length (text shape frames)

-- where a live change whose number is below count says what is at position i
abbrev pub early_in : Shape → ℕ → ℕ → ℕ → ℕ → Tally → Frame → Option ℕ
early_in shape folded count i p tally frame = if nat_lt tally.changes count then change_in shape folded i p tally frame else None

abbrev pub early_of : Shape → ℕ → List Frame → ℕ → Option ℕ
early_of shape count frames i = last_from (early_in shape (tally_of frames).folded count i) shape.format (length (header shape)) nothing frames

-- Byte j is a home byte of a position that a live change below number count covers. While a fold of that count is in
-- hand it may be anything.
pub record IsBeingFolded (shape : Shape) (count : ℕ) (frames : List Frame) (j : ℕ) : Type 0 where
  pub position : ℕ
  pub place : ℕ
  pub told : ℕ
  pub home_is : home_of shape frames position ≡ Some place
  pub covered : early_of shape count frames position ≡ Some told
  pub from : place ≤ j
  pub before : j < place + shape.width
