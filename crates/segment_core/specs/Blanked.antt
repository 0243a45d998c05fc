-- Frames but for their home bytes, which folds write anew: all that a file says but records follows from them.
use Rattle.std.specs.Prelude.{List, length, map}
use Rattle.std.proofs.Common.{replicate}
use Rattle.segment_core.specs.Frame.{Frame, Group, Change, Shrink, Fold}

-- the frame with zeros for its home bytes
abbrev pub blanked : Frame → Frame
blanked (Group lengths bytes) = Group lengths (replicate (length bytes) 0)
blanked (Change runs bytes) = Change runs bytes
blanked (Shrink n) = Shrink n
blanked (Fold count) = Fold count

abbrev pub all_blanked : List Frame → List Frame
all_blanked frames = map blanked frames
