-- Records as their bytes: what a file says, and what a frame makes of it, where no type of records is at hand.
use Rattle.std.specs.Prelude.{◌≡◌, ℕ, zero, suc, List, [], ◌∷◌, length, map, take, drop, sum, slice_get, Option, Some, None}
use Rattle.std.specs.Option.{option_map, option_and_then, unwrap_or}
use Rattle.record_core.specs.Bytes.{Encoding}
use Rattle.record_core.specs.Cells.{AreReadAgain}
use Rattle.segment_core.specs.Frame.{Frame, records_of_runs}
use Rattle.segment_core.specs.Frame as frames
use Rattle.segment_core.specs.Command.{Command, Grow, Shrink, Change, after_command}

-- any bytes of the width are a record
abbrev pub raw : ℕ → Encoding (List ℕ)
raw width = record { width = width; bytes_of = λ bytes. bytes; value_of = λ bytes. Some bytes }

-- the first n records of these bytes
abbrev pub cells_in : ℕ → ℕ → List ℕ → List (List ℕ)
cells_in width zero bytes = []
cells_in width (suc n) bytes = take width bytes ∷ cells_in width n (drop width bytes)

-- the command that a frame commits; a Fold is none
abbrev pub command_of : ℕ → Frame → Option (Command (List ℕ))
command_of width (frames.Group lengths bytes) = Some (Grow (cells_in width (sum lengths) bytes))
command_of width (frames.Change runs bytes) = Some (Change runs (cells_in width (records_of_runs runs) bytes))
command_of width (frames.Shrink n) = Some (Shrink n)
command_of width (frames.Fold count) = None

-- the vector behind it
abbrev pub after_frame : ℕ → List (List ℕ) → Frame → List (List ℕ)
after_frame width cells frame = unwrap_or (option_map (after_command cells) (command_of width frame)) cells

-- these bytes, one by one, are read as these records
pub record AreReadAs {R : Type 0} (form : Encoding R) (cells : List (List ℕ)) (records : List R) : Type 0 where
  pub size : length cells ≡ length records
  pub each : (i : ℕ) → option_and_then form.value_of (slice_get cells i) ≡ slice_get records i

-- these bytes, one by one, are these records as they are written, and are read as them again
pub record AreCellsOf {R : Type 0} (form : Encoding R) (cells : List (List ℕ)) (records : List R) : Type 0 where
  pub written : cells ≡ map form.bytes_of records
  pub read_again : AreReadAgain form records
