-- The frame that a command is committed as.
use Rattle.std.specs.Prelude.{◌≡◌, ℕ, List}
use Rattle.record_core.specs.Bytes.{Encoding}
use Rattle.record_core.specs.Cells.{AreRecords}
use Rattle.segment_core.specs.Frame.{Frame}
use Rattle.segment_core.specs.Frame as frames
use Rattle.segment_core.specs.Command.{Command, Grow, Shrink, Change}

-- the bytes are its records'; a Grow's may be cut into growths anywhere
abbrev pub IsFrameOf : {R : Type 0} → Encoding R → Command R → Frame → Type 0
IsFrameOf form (Grow new) frame = (lengths : List ℕ) × (bytes : List ℕ) × (frame ≡ frames.Group lengths bytes) × AreRecords form bytes new
IsFrameOf form (Shrink n) frame = frame ≡ frames.Shrink n
IsFrameOf form (Change runs new) frame = (bytes : List ℕ) × (frame ≡ frames.Change runs bytes) × AreRecords form bytes new
