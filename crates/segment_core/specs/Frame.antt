-- The text of a segment file: the header, then the frames, each behind its gate.
use Rattle.std.specs.Prelude.{ℕ, ◌+◌, ◌*◌, List, [], ◌∷◌, ◌++◌, length, map, sum, codes}
use Rattle.std.specs.List.{flat_map}
use Rattle.std.specs.Int.{w16, w32, w64, to_le_bytes}
use Rattle.segment_core.specs.declared.format.Format.{Format}
use Rattle.segment_core.specs.declared.format.Format.TheVariants.{One, Two}
use Rattle.segment_core.specs.declared.format.Shape.{Shape}
use Rattle.segment_core.specs.Shape.{version_of}

-- a gate that is open, and a gate as it is written closed
abbrev pub open_gate : ℕ
open_gate = 1

abbrev pub closed_gate : ℕ
closed_gate = 0

-- the bytes of a file's header, and those of a frame before its payload
abbrev pub header_len : ℕ
header_len = 11

abbrev pub frame_head_len : ℕ
frame_head_len = 6

-- consecutive positions
pub record Run : Type 0 where
  pub start : ℕ
  pub count : ℕ

-- What one commit writes. Records stand as their bytes: those under a live change needn't be records.
pub data Frame : Type 0 where
  -- the lengths of its growths in records, and the bytes of their records
  Group : List ℕ → List ℕ → Frame
  -- the runs that it replaces, and the bytes of their records in the order of the runs
  Change : List Run → List ℕ → Frame
  -- the new length
  Shrink : ℕ → Frame
  -- how many changes of this file stand in their home bytes
  Fold : ℕ → Frame

abbrev pub kind_of : Frame → ℕ
kind_of (Group lengths bytes) = 1
kind_of (Change runs bytes) = 2
kind_of (Shrink n) = 3
kind_of (Fold count) = 4

-- a number that version 1 leaves out, since it follows from the payload's length
abbrev pub number_text : Format → ℕ → List ℕ
number_text One n = []
number_text Two n = to_le_bytes w32 n

-- the bytes of such a number
abbrev pub number_len : Format → ℕ
number_len One = 0
number_len Two = 4

abbrev pub run_text : Format → Run → List ℕ
run_text format run = to_le_bytes w64 run.start ++ number_text format run.count

-- what stands before the records of a change, and how many bytes that are
abbrev pub runs_text : Format → List Run → List ℕ
runs_text format runs = number_text format (length runs) ++ flat_map (run_text format) runs

abbrev pub runs_len : Format → ℕ → ℕ
runs_len format n = number_len format + n * (8 + number_len format)

-- the records of runs
abbrev pub records_of_runs : List Run → ℕ
records_of_runs runs = sum (map (λ run. run.count) runs)

abbrev pub payload_of : Format → Frame → List ℕ
payload_of format (Group lengths bytes) = to_le_bytes w32 (length lengths) ++ (flat_map (to_le_bytes w32) lengths ++ bytes)
payload_of format (Change runs bytes) = runs_text format runs ++ bytes
payload_of format (Shrink n) = to_le_bytes w64 n
payload_of format (Fold count) = to_le_bytes w64 count

-- an open gate, the kind, the payload's length and the payload
abbrev pub frame_text : Format → Frame → List ℕ
frame_text format frame = (open_gate ∷ kind_of frame ∷ to_le_bytes w32 (length (payload_of format frame))) ++ payload_of format frame

-- an open gate, the magic, the version and the width of a record
abbrev pub header : Shape → List ℕ
header shape = (open_gate ∷ codes "CVECSEG") ++ (version_of shape.format ∷ to_le_bytes w16 shape.width)

abbrev pub text : Shape → List Frame → List ℕ
text shape frames = header shape ++ flat_map (frame_text shape.format) frames
