-- Runs as they are given to a writer, and the frame of a change of them.
use Rattle.std.specs.Prelude.{ℕ, ◌+◌, ◌*◌, List, length, map}
use Rattle.std.specs.List.{flat_map}
use Rattle.record_core.specs.Bytes.{Encoding}
use Rattle.segment_core.specs.declared.format.Shape.{Shape}
use Rattle.segment_core.specs.Frame.{Run, Frame, Change, runs_len, records_of_runs}
use Rattle.segment_core.specs.Written.{joined}

-- by start and count
abbrev pub runs_given : List (ℕ × ℕ) → List Run
runs_given runs = map (λ run. record { start = run.0; count = run.1 }) runs

-- the bytes of the payload of a change of these runs
abbrev pub change_len : Shape → List Run → ℕ
change_len shape runs = runs_len shape.format (length runs) + records_of_runs runs * shape.width

-- the frame of a change of these runs to the records of these pieces, in order
abbrev pub change_frame : {R : Type 0} → Encoding R → List Run → List (List R) → Frame
change_frame form runs pieces = Change runs (flat_map form.bytes_of (joined pieces))
