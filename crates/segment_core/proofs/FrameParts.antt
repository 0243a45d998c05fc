-- The parts of a frame's text: what stands before its records, and its records.
use Rattle.std.proofs.Common.{◌≡◌, ℕ, ◌+◌, ◌*◌, List, ◌∷◌, ◌++◌, length, refl, sym, ap, ◌∙◌, append_assoc, arith}
use Rattle.std.specs.List.{flat_map}
use Rattle.std.specs.Int.{w32, w64, to_le_bytes}
use Rattle.std.proofs.lemmas.List.{length-append}
use Rattle.std.proofs.lemmas.List.Sums.{sum-map, sum_by-cons}
use Rattle.segment_core.specs.declared.format.Format.{Format}
use Rattle.segment_core.specs.declared.format.Shape.{Shape}
use Rattle.segment_core.specs.Frame.{Run, Frame, Group, Change, Shrink, Fold, kind_of, runs_text, records_of_runs, payload_of, frame_text}
use Rattle.segment_core.specs.Layout.{HasLayout}
use Rattle.segment_core.specs.Reading.{record_bytes_of, record_count, head_len}
use Rattle.segment_core.proofs.Numbers.{length-numbers_text}
use Rattle.segment_core.proofs.RunRows.{length-runs_text}

-- ---- what stands before the records

-- of a payload
abbrev pub head_text : Format → Frame → List ℕ
head_text format (Group lengths bytes) = to_le_bytes w32 (length lengths) ++ flat_map (to_le_bytes w32) lengths
head_text format (Change runs bytes) = runs_text format runs
head_text format (Shrink n) = to_le_bytes w64 n
head_text format (Fold count) = to_le_bytes w64 count

pub length-head_text : (format : Format) (frame : Frame) → length (head_text format frame) ≡ head_len format frame
length-head_text format (Group lengths bytes) = let all = length-append (to_le_bytes w32 (length lengths)) (flat_map (to_le_bytes w32) lengths) in let rest = length-numbers_text lengths in omega arith
length-head_text format (Change runs bytes) = length-runs_text format runs
length-head_text format (Shrink n) = refl
length-head_text format (Fold count) = refl

pub payload_parts : (format : Format) (frame : Frame) → payload_of format frame ≡ head_text format frame ++ record_bytes_of frame
payload_parts format (Group lengths bytes) = sym (append_assoc (to_le_bytes w32 (length lengths)) (flat_map (to_le_bytes w32) lengths) bytes)
payload_parts format (Change runs bytes) = refl
payload_parts format (Shrink n) = refl
payload_parts format (Fold count) = refl

pub length-payload_of : (format : Format) (frame : Frame) → length (payload_of format frame) ≡ head_len format frame + length (record_bytes_of frame)
length-payload_of format frame =
    let all = length-append (head_text format frame) (record_bytes_of frame) in
    let head = length-head_text format frame in
    ap length (payload_parts format frame) ∙ omega arith

-- of a frame
abbrev pub front_text : Format → Frame → List ℕ
front_text format frame = (1 ∷ kind_of frame ∷ to_le_bytes w32 (length (payload_of format frame))) ++ head_text format frame

pub length-front_text : (format : Format) (frame : Frame) → length (front_text format frame) ≡ 6 + head_len format frame
length-front_text format frame =
    let all = length-append (1 ∷ kind_of frame ∷ to_le_bytes w32 (length (payload_of format frame))) (head_text format frame) in
    let head = length-head_text format frame in
    omega arith

pub frame_parts : (format : Format) (frame : Frame) → frame_text format frame ≡ front_text format frame ++ record_bytes_of frame
frame_parts format frame =
    let start : List ℕ = 1 ∷ kind_of frame ∷ to_le_bytes w32 (length (payload_of format frame)) in
    ap (λ (bs : List ℕ). start ++ bs) (payload_parts format frame) ∙ sym (append_assoc start (head_text format frame) (record_bytes_of frame))

pub length-frame_parts : (format : Format) (frame : Frame) → length (frame_text format frame) ≡ 6 + head_len format frame + length (record_bytes_of frame)
length-frame_parts format frame =
    let all = length-append (front_text format frame) (record_bytes_of frame) in
    let front = length-front_text format frame in
    ap length (frame_parts format frame) ∙ omega arith

-- the records fill their part exactly
pub records_filled : (shape : Shape) (frame : Frame) → HasLayout shape frame → length (record_bytes_of frame) ≡ record_count frame * shape.width
records_filled shape (Group lengths bytes) layout = layout.2
records_filled shape (Change runs bytes) layout = layout.2
records_filled shape (Shrink n) layout = omega arith
records_filled shape (Fold count) layout = omega arith

-- ---- runs

pub records_of_runs-cons : (run : Run) (runs : List Run) → records_of_runs (run ∷ runs) ≡ run.count + records_of_runs runs
records_of_runs-cons run runs =
    let count : Run → ℕ = λ r. r.count in
    sum-map count (run ∷ runs) ∙ sum_by-cons count run runs ∙ ap (λ n. run.count + n) (sym (sum-map count runs))
