-- The vector of an image, position by position: what the last live change over a position says, else what
-- stands in its home bytes.
use Rattle.std.specs.Prelude.{◌≡◌, ℕ, ◌+◌, ◌-◌, ◌*◌, ◌<◌, List, [], ◌∷◌, length, take, drop, sum, slice_get, Option, Some, None, nat_le, nat_lt, ◌&&◌, if◌then◌else◌}
use Rattle.std.specs.Option.{option_or, option_and_then}
use Rattle.record_core.specs.Bytes.{Encoding}
use Rattle.segment_core.specs.declared.format.Format.{Format}
use Rattle.segment_core.specs.declared.format.Shape.{Shape}
use Rattle.segment_core.specs.Shape.{shape_of}
use Rattle.segment_core.specs.Frame.{Run, Frame, Group, Change, Shrink, Fold, runs_len, header, frame_text, frame_head_len}
use Rattle.segment_core.specs.declared.tally.Tally.{Tally}
use Rattle.segment_core.specs.Tally.{nothing, after, tally_of}
use Rattle.segment_core.specs.Image.{HasFrames}

-- what the last frame says that says something, each told its place and what the frames before it leave
abbrev pub last_from : (ℕ → Tally → Frame → Option ℕ) → Format → ℕ → Tally → List Frame → Option ℕ
last_from says format p tally [] = None
last_from says format p tally (frame ∷ frames) = option_or (last_from says format (p + length (frame_text format frame)) (after tally frame) frames) (says p tally frame)

-- where the record of position i stands, if the records of count positions from start on stand at p
abbrev pub place_among : ℕ → ℕ → ℕ → ℕ → ℕ → Option ℕ
place_among width p start count i = if nat_le start i && nat_lt i (start + count) then Some (p + (i - start) * width) else None

-- where the home bytes of position i begin in the frame whose gate is at p, if its records took that position
abbrev pub home_in : ℕ → ℕ → ℕ → Tally → Frame → Option ℕ
home_in width i p tally (Group lengths bytes) = place_among width (p + 10 + length lengths * 4) tally.size (sum lengths) i
home_in width i p tally (Change runs bytes) = None
home_in width i p tally (Shrink n) = None
home_in width i p tally (Fold count) = None

-- where runs whose records begin at p say what stands at position i; in a legal change one run at most does
abbrev pub place_in_runs : ℕ → ℕ → ℕ → List Run → Option ℕ
place_in_runs width i p [] = None
place_in_runs width i p (run ∷ runs) = option_or (place_in_runs width i (p + run.count * width) runs) (place_among width p run.start run.count i)

-- where the frame, a change that isn't folded, says what stands at position i; folded is the count of the file's
-- last Fold
abbrev pub change_in : Shape → ℕ → ℕ → ℕ → Tally → Frame → Option ℕ
change_in shape folded i p tally (Change runs bytes) = if nat_le folded tally.changes then place_in_runs shape.width i (p + frame_head_len + runs_len shape.format (length runs)) runs else None
change_in shape folded i p tally (Group lengths bytes) = None
change_in shape folded i p tally (Shrink n) = None
change_in shape folded i p tally (Fold count) = None

-- where the home bytes of position i begin: in the last frame that has them
abbrev pub home_of : Shape → List Frame → ℕ → Option ℕ
home_of shape frames i = last_from (home_in shape.width i) shape.format (length (header shape)) nothing frames

-- where the last change, of those from number folded on, says what stands at position i
abbrev pub change_of : Shape → ℕ → List Frame → ℕ → Option ℕ
change_of shape folded frames i = last_from (change_in shape folded i) shape.format (length (header shape)) nothing frames

-- where the bytes stand that say what is at position i
unfoldable pub place_of : Shape → List Frame → ℕ → Option ℕ
place_of shape frames i = option_or (change_of shape (tally_of frames).folded frames i) (home_of shape frames i)

-- the record whose bytes begin at a place, if they are one
abbrev pub record_in : {R : Type 0} → Encoding R → List ℕ → ℕ → Option R
record_in form image place = form.value_of (take form.width (drop place image))

-- the record that the image says stands at position i
abbrev pub record_at : {R : Type 0} → Format → Encoding R → List ℕ → List Frame → ℕ → Option R
record_at format form image frames i = option_and_then (record_in form image) (place_of (shape_of format form) frames i)

-- what the image says of each position
pub record IsVectorOf {R : Type 0} (format : Format) (form : Encoding R) (image : List ℕ) (frames : List Frame) (records : List R) : Type 0 where
  pub size : length records ≡ (tally_of frames).size
  pub each : (i : ℕ) → i < length records → record_at format form image frames i ≡ slice_get records i

-- the vector of an image, where it has one
pub record HasVector {R : Type 0} (format : Format) (form : Encoding R) (image : List ℕ) (frames : List Frame) (records : List R) : Type 0 where
  pub framed : HasFrames (shape_of format form) image frames
  pub read : IsVectorOf format form image frames records
