-- The frames on a disk are walked, and no records are read.
use Rattle.std.specs.Prelude.{◌≡◌, ◌≤◌, ◌<◌, ◌⊎◌, ℕ, ◌+◌, ◌^◌, Bool, true, false, List, [], ◌∷◌, ◌++◌, length, drop, slice_range}
use Rattle.disk_core.specs.State.{State, now, settled}
use Rattle.disk_core.specs.Calls.{bytes_of}
use Rattle.disk_core.specs.declared.fault.DiskFault.TheVariants as causes
use Rattle.segment_core.specs.declared.fault.ScanFault.TheVariants.{Memory}
use Rattle.segment_core.specs.declared.format.Shape.{Shape}
use Rattle.segment_core.specs.declared.found.Homes.{Homes}
use Rattle.segment_core.specs.declared.frame_walk.Framed.{Framed}
use Rattle.segment_core.specs.declared.frame_walk.FrameWalk.{FrameWalk}
use Rattle.segment_core.specs.declared.tally.Tally.{Tally}
use Rattle.segment_core.specs.Frame.{Frame, text}
use Rattle.segment_core.specs.Tally.{tally_of, AreLegal}
use Rattle.segment_core.specs.Image.{HasFrames}
use Rattle.segment_core.specs.Fault.{is_closed}
use Rattle.segment_core.specs.Reading.{BeginsWith}
use Rattle.segment_core.specs.Found.{AreHomesOf}
use Rattle.segment_core.specs.FrameWalk.{HasWalked, IsFramed, IsEndedBy}
use Rattle.pen_core.specs.declared.fault.OpenFault.{OpenFault}
use Rattle.pen_core.specs.declared.fault.OpenFault.TheVariants.{Scan, Disk}
use Rattle.pen_core.specs.declared.framing.FilePiece.{FilePiece}
use Rattle.pen_core.specs.Held.{gate_of}

-- ---- a piece of the file

-- The piece is inside a file of so many bytes; where the disk keeps the model, it has what stands there.
pub record HoldsPiece (keeps : Type 0) (bytes : List ℕ) (size : ℕ) (piece : FilePiece) : Type 0 where
  pub ends : piece.start + length piece.bytes.items ≤ size
  pub is : keeps → piece.bytes.items ≡ slice_range bytes piece.start (piece.start + length piece.bytes.items)

-- it has the first n bytes from a place on
pub record Covers (at n : ℕ) (piece : FilePiece) : Type 0 where
  pub from : piece.start ≤ at
  pub to : at + n ≤ piece.start + length piece.bytes.items

-- why a piece isn't had
abbrev pub IsPieceFault : OpenFault → Type 0
IsPieceFault fault = (fault ≡ Scan Memory) ⊎ (fault ≡ Disk causes.Read)

-- ---- the walk

-- one frame further: where the disk keeps the model, the one that stands there
pub record IsFurther (keeps : Type 0) (bytes : List ℕ) (size : ℕ) (old new : FrameWalk) : Type 0 where
  pub shape_is : new.shape ≡ old.shape
  pub further : old.at < new.at
  pub inside : new.at ≤ size
  pub walked : (frames : List Frame) → HasWalked frames old
      → (frame : Frame) × HasWalked (frames ++ frame ∷ []) new × (keeps → BeginsWith old.shape (drop old.at bytes) frame)

-- whether there was one
abbrev pub HasGone : Type 0 → List ℕ → ℕ → FrameWalk → FrameWalk → Bool → Type 0
HasGone keeps bytes size old new true = IsFurther keeps bytes size old new
HasGone keeps bytes size old new false = (new ≡ old) × (keeps → is_closed (drop old.at bytes) ≡ true)

abbrev pub StopsWalk : FrameWalk → List ℕ → OpenFault → Type 0
StopsWalk walk bytes (Scan fault) = IsEndedBy walk (drop walk.at bytes) fault
StopsWalk walk bytes (Disk cause) = cause ≡ causes.Read

-- The walk stands behind frames: where the disk keeps the model, behind those that its bytes begin with.
pub record IsOnWay (keeps : Type 0) (bytes : List ℕ) (size : ℕ) (walk : FrameWalk) : Type 0 where
  pub frames : List Frame
  pub walked : HasWalked frames walk
  pub inside : walk.at ≤ size
  pub begins : keeps → bytes ≡ text walk.shape frames ++ drop walk.at bytes

-- and a closed gate follows
pub record IsThrough (keeps : Type 0) (bytes : List ℕ) (size : ℕ) (walk : FrameWalk) : Type 0 where
  pub frames : List Frame
  pub walked : HasWalked frames walk
  pub inside : walk.at ≤ size
  pub framed : keeps → HasFrames walk.shape bytes frames

-- What was found of a file of so many bytes: where the disk keeps the model, of its frames.
pub record IsFramedOn (keeps : Type 0) (bytes : List ℕ) (size : ℕ) (framed : Framed) : Type 0 where
  pub frames : List Frame
  pub is : IsFramed frames framed
  pub inside : framed.gate ≤ size
  pub framed_by : keeps → HasFrames framed.shape bytes frames

-- ---- the pen

-- What a pen goes on from: there are frames that leave this. Where the disk keeps the model, they are those of its bytes,
-- and all of these are on it.
pub record IsKnownFile (keeps : Type 0) (states : List State) (shape : Shape) (gate : ℕ) (tally : Tally) (homes : Homes) : Type 0 where
  pub frames : List Frame
  pub wide : (1 ≤ shape.width) × (shape.width < 2 ^ 16)
  pub legal : AreLegal shape frames
  pub gate_is : gate ≡ gate_of shape frames
  pub gate_fits : gate < 2 ^ 64
  pub tally_is : tally ≡ tally_of frames
  pub homes_are : AreHomesOf shape frames homes
  pub framed : keeps → HasFrames shape (bytes_of states) frames
  pub on_disk : keeps → now states ≡ settled (bytes_of states)
