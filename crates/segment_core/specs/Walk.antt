-- A walk over the frames of an image: where it stands, and what it has found.
use Rattle.std.specs.Prelude.{◌≡◌, ◌≤◌, ◌<◌, ℕ, true, List, ◌++◌, length, drop, Some, ◌⊎◌}
use Rattle.record_core.specs.Bytes.{Encoding}
use Rattle.segment_core.specs.declared.fault.ScanFault.{ScanFault}
use Rattle.segment_core.specs.declared.fault.ScanFault.TheVariants.{Memory}
use Rattle.segment_core.specs.declared.format.Shape.{Shape}
use Rattle.segment_core.specs.declared.walk.Tail.{Tail}
use Rattle.segment_core.specs.declared.walk.Tail.TheVariants.{Closed, Short}
use Rattle.segment_core.specs.declared.walk.Walk.{Walk}
use Rattle.segment_core.specs.Frame.{Frame, text}
use Rattle.segment_core.specs.Tally.{tally_of, AreLegal}
use Rattle.segment_core.specs.Image.{IsLongest}
use Rattle.segment_core.specs.Fault.{frame_fault, is_closed}
use Rattle.segment_core.specs.Reading.{IsShort}
use Rattle.segment_core.specs.Found.{IsFound}

-- a walk that stands behind these frames
pub record IsBehind {R : Type 0} (form : Encoding R) (frames : List Frame) (walk : Walk R) : Type 0 where
  pub wide : 0 < form.width
  pub width_is : walk.shape.width ≡ form.width
  pub legal : AreLegal walk.shape frames
  pub at_end : walk.at ≡ length (text walk.shape frames)
  pub frames_are : walk.frames ≡ length frames
  pub tally_is : walk.tally ≡ tally_of frames
  pub few : (tally_of frames).changes ≤ length frames
  pub found : IsFound form walk.shape.format frames walk.found

-- and these bytes are what is left of the image
pub record StandsBefore {R : Type 0} (form : Encoding R) (image bytes : List ℕ) (walk : Walk R) : Type 0 where
  pub frames : List Frame
  pub behind : IsBehind form frames walk
  pub left : image ≡ text walk.shape frames ++ bytes

-- what the bytes that are left begin with
abbrev pub IsTail : Shape → ℕ → List ℕ → Tail → Type 0
IsTail shape at bytes Closed = is_closed bytes ≡ true
IsTail shape at bytes Short = IsShort shape at bytes

-- the fault at the end of the frames, whatever follows
abbrev pub IsFaultOf : Shape → List ℕ → ScanFault → Type 0
IsFaultOf shape image fault =
    (more : List ℕ)
    → (frames : List Frame)
    × IsLongest shape (image ++ more) frames
    × (frame_fault shape (length (text shape frames)) (tally_of frames) (drop (length (text shape frames)) (image ++ more)) ≡ Some fault)

-- what a walk answers in place of going on
abbrev pub IsWalkRefused : Shape → List ℕ → ScanFault → Type 0
IsWalkRefused shape image fault = IsFaultOf shape image fault ⊎ (fault ≡ Memory)
