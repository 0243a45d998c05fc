-- A file with one frame more, the frame of a job, and the frames before a gate but for their home bytes.
use Rattle.std.specs.Prelude.{ℕ, List, [], ◌∷◌, ◌++◌}
use Rattle.segment_core.specs.declared.format.Shape.{Shape}
use Rattle.segment_core.specs.Frame.{Frame}
use Rattle.segment_core.specs.Layout.{frame_in}
use Rattle.segment_core.specs.Fault.{kind_in, payload_in}
use Rattle.segment_core.specs.Blanked.{blanked, all_blanked}
use Rattle.segment_core.specs.Parsed.{frames_before}

-- the file with one frame more
abbrev pub frames_with : List Frame → Frame → List Frame
frames_with frames frame = frames ++ blanked frame ∷ []

-- the frame whose text begins these bytes
unfoldable pub frame_at : Shape → List ℕ → Frame
frame_at shape bytes = frame_in shape (kind_in bytes) (payload_in bytes)

-- the frames that stand before this gate, but for their home bytes
abbrev pub blanked_before : Shape → ℕ → List ℕ → List Frame
blanked_before shape gate bytes = all_blanked (frames_before shape gate bytes)
