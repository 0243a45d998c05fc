-- A frame where it stands in an image, and what a reader of it knows.
use Rattle.std.specs.Prelude.{◌≡◌, ◌≤◌, ◌<◌, ℕ, ◌+◌, ◌*◌, ◌^◌, true, false, List, [], ◌++◌, length, sum, Option, Some, None, Result, Ok, Err}
use Rattle.segment_core.specs.declared.fault.Cause.TheVariants.{NoGate, ShortFrame}
use Rattle.segment_core.specs.declared.fault.ScanFault.{ScanFault}
use Rattle.segment_core.specs.declared.frame_head.Unread.{Unread}
use Rattle.segment_core.specs.declared.frame_head.Unread.TheVariants.{Short, Fault}
use Rattle.segment_core.specs.declared.format.Format.{Format}
use Rattle.segment_core.specs.declared.format.Shape.{Shape}
use Rattle.segment_core.specs.Shape.{limit_of}
use Rattle.segment_core.specs.Frame.{Run, Frame, Group, Change, Shrink, Fold, runs_len, records_of_runs, payload_of, frame_text, frame_head_len}
use Rattle.segment_core.specs.Layout.{IsFrame}
use Rattle.segment_core.specs.Fault.{first_line, frame_lines, is_closed, damaged}

-- a frame as a reader sees it: the place of its gate, the shape of its file, and what it says
pub record Seen : Type 0 where
  pub at : ℕ
  pub shape : Shape
  pub frame : Frame

-- the lengths of a frame's growths
abbrev pub lengths_of : Frame → List ℕ
lengths_of (Group lengths bytes) = lengths
lengths_of (Change runs bytes) = []
lengths_of (Shrink n) = []
lengths_of (Fold count) = []

-- the runs that it replaces
abbrev pub runs_of : Frame → List Run
runs_of (Group lengths bytes) = []
runs_of (Change runs bytes) = runs
runs_of (Shrink n) = []
runs_of (Fold count) = []

-- the bytes of a frame's records
abbrev pub record_bytes_of : Frame → List ℕ
record_bytes_of (Group lengths bytes) = bytes
record_bytes_of (Change runs bytes) = bytes
record_bytes_of (Shrink n) = []
record_bytes_of (Fold count) = []

-- how many they are
abbrev pub record_count : Frame → ℕ
record_count (Group lengths bytes) = sum lengths
record_count (Change runs bytes) = records_of_runs runs
record_count (Shrink n) = 0
record_count (Fold count) = 0

-- and how many bytes of the payload stand before them
abbrev pub head_len : Format → Frame → ℕ
head_len format (Group lengths bytes) = 4 + length lengths * 4
head_len format (Change runs bytes) = runs_len format (length runs)
head_len format (Shrink n) = 8
head_len format (Fold count) = 8

-- what the fields of a reader are: its head counts the growths, or the runs
pub record IsRead (at : ℕ) (shape : Shape) (heads records : ℕ) (payload : List ℕ) (frame : Frame) : Type 0 where
  pub placed : at + frame_head_len + length payload < 2 ^ 64
  pub small : length payload ≤ limit_of shape.format
  pub whole : IsFrame shape frame
  pub spelled : payload_of shape.format frame ≡ payload
  pub heads_are : heads ≡ length (lengths_of frame) + length (runs_of frame)
  pub records_are : records ≡ record_count frame
  pub filled : length (record_bytes_of frame) ≡ records * shape.width
  pub sized : head_len shape.format frame + records * shape.width ≡ length payload

-- the bytes begin with a whole open frame
pub record BeginsWith (shape : Shape) (bytes : List ℕ) (frame : Frame) : Type 0 where
  pub whole : IsFrame shape frame
  pub text : (rest : List ℕ) × (bytes ≡ frame_text shape.format frame ++ rest)

-- no frame that begins these bytes is whole, and none of its bytes is at fault
pub record IsShort (shape : Shape) (p : ℕ) (bytes : List ℕ) : Type 0 where
  pub opened : is_closed bytes ≡ false
  pub empty : length bytes ≡ 0 → first_line (frame_lines shape p bytes) ≡ Some (damaged p NoGate)
  pub cut : 0 < length bytes → first_line (frame_lines shape p bytes) ≡ Some (damaged p ShortFrame)

-- the frame that begins these bytes has this fault by itself, whatever follows them
abbrev pub IsFaulty : Shape → ℕ → List ℕ → ScanFault → Type 0
IsFaulty shape p bytes fault = (more : List ℕ) → (is_closed (bytes ++ more) ≡ false) × (first_line (frame_lines shape p (bytes ++ more)) ≡ Some fault)

-- what is answered of the frame whose gate is at p, where bytes is the image from there on
abbrev pub IsNext : Shape → ℕ → List ℕ → Result (Option Seen) Unread → Type 0
IsNext shape p bytes (Ok None) = is_closed bytes ≡ true
IsNext shape p bytes (Ok (Some seen)) = (seen.at ≡ p) × (seen.shape ≡ shape) × BeginsWith shape bytes seen.frame
IsNext shape p bytes (Err Short) = IsShort shape p bytes
IsNext shape p bytes (Err (Fault fault)) = IsFaulty shape p bytes fault
