-- Which payloads have the form of their kind, and which frame a payload is.
use Rattle.std.specs.Prelude.{◌≡◌, ℕ, zero, suc, ◌+◌, ◌-◌, ◌*◌, ◌/◌, ◌<◌, ◌≤◌, ◌^◌, Bool, List, [], ◌∷◌, length, take, drop, sum, nat_le, nat_lt, ◌==◌, ◌&&◌, if◌then◌else◌}
use Rattle.std.specs.List.{AllByRecursion, list_all}
use Rattle.std.specs.Int.{w32, w64, from_le_bytes}
use Rattle.segment_core.specs.declared.format.Format.{Format}
use Rattle.segment_core.specs.declared.format.Format.TheVariants.{One, Two}
use Rattle.segment_core.specs.declared.format.Shape.{Shape}
use Rattle.segment_core.specs.Shape.{limit_of}
use Rattle.segment_core.specs.Frame.{Run, Frame, Group, Change, Shrink, Fold, number_len, runs_len, records_of_runs, payload_of}

-- a growth's length as it stands in a Group
abbrev pub IsLength : ℕ → Type 0
IsLength n = (0 < n) × (n < 2 ^ 32)

abbrev pub IsRun : Run → Type 0
IsRun run = (run.start < 2 ^ 64) × IsLength run.count

-- version 1 has no field for the number of runs: there is one
abbrev pub HasRuns : Format → List Run → Type 0
HasRuns One runs = length runs ≡ 1
HasRuns Two runs = 0 < length runs

-- the fields fit, and the records fill their part exactly
abbrev pub HasLayout : Shape → Frame → Type 0
HasLayout shape (Group lengths bytes) = (0 < length lengths) × AllByRecursion IsLength lengths × (length bytes ≡ sum lengths * shape.width)
HasLayout shape (Change runs bytes) = HasRuns shape.format runs × AllByRecursion IsRun runs × (length bytes ≡ records_of_runs runs * shape.width)
HasLayout shape (Shrink n) = n < 2 ^ 64
HasLayout shape (Fold count) = count < 2 ^ 64

-- a frame of a file of this shape, whatever stands before it
pub record IsFrame (shape : Shape) (frame : Frame) : Type 0 where
  pub wide : 0 < shape.width
  pub small : length (payload_of shape.format frame) ≤ limit_of shape.format
  pub layout : HasLayout shape frame

-- ---- the same, read from a payload

unfoldable pub u32_at : List ℕ → ℕ → ℕ
u32_at bytes i = from_le_bytes w32 (take 4 (drop i bytes))

unfoldable pub u64_at : List ℕ → ℕ → ℕ
u64_at bytes i = from_le_bytes w64 (take 8 (drop i bytes))

-- the first numbers of four bytes each
abbrev pub numbers_in : ℕ → List ℕ → List ℕ
numbers_in zero bytes = []
numbers_in (suc n) bytes = u32_at bytes 0 ∷ numbers_in n (drop 4 bytes)

-- how many growths a Group's payload has, their lengths, and the bytes of their records
abbrev pub count_in : List ℕ → ℕ
count_in payload = u32_at payload 0

abbrev pub lengths_in : List ℕ → List ℕ
lengths_in payload = numbers_in (count_in payload) (drop 4 payload)

abbrev pub homes_in : List ℕ → List ℕ
homes_in payload = drop (4 + count_in payload * 4) payload

-- a number that version 1 leaves out: there it is what is given
abbrev pub number_at : Format → ℕ → List ℕ → ℕ → ℕ
number_at One given bytes i = given
number_at Two given bytes i = u32_at bytes i

-- the first runs; where no counts stand, the one run fills what is left
abbrev pub runs_from : Format → ℕ → ℕ → List ℕ → List Run
runs_from format filling zero bytes = []
runs_from format filling (suc n) bytes = record { start = u64_at bytes 0; count = number_at format filling bytes 8 } ∷ runs_from format filling n (drop (8 + number_len format) bytes)

-- how many runs a Change's payload has, the runs, and the bytes of their records
abbrev pub run_count_in : Format → List ℕ → ℕ
run_count_in format payload = number_at format 1 payload 0

abbrev pub runs_in : Shape → List ℕ → List Run
runs_in shape payload = runs_from shape.format ((length payload - 8) / shape.width) (run_count_in shape.format payload) (drop (number_len shape.format) payload)

abbrev pub new_in : Format → List ℕ → List ℕ
new_in format payload = drop (runs_len format (run_count_in format payload)) payload

abbrev pub frame_in : Shape → ℕ → List ℕ → Frame
frame_in shape kind payload =
    if kind == 1 then Group (lengths_in payload) (homes_in payload)
    else if kind == 2 then Change (runs_in shape payload) (new_in shape.format payload)
    else if kind == 3 then Shrink (u64_at payload 0)
    else Fold (u64_at payload 0)

unfoldable pub is_group_layout : ℕ → List ℕ → Bool
is_group_layout width payload =
    nat_le 4 (length payload) && (nat_lt 0 (count_in payload) && (nat_le (4 + count_in payload * 4) (length payload)
    && (list_all (nat_lt 0) (lengths_in payload) && (length (homes_in payload) == sum (lengths_in payload) * width))))

unfoldable pub is_change_layout : Shape → List ℕ → Bool
is_change_layout shape payload =
    nat_le (number_len shape.format) (length payload) && (nat_lt 0 (run_count_in shape.format payload) && (nat_le (runs_len shape.format (run_count_in shape.format payload)) (length payload)
    && (list_all (λ run. nat_lt 0 run.count) (runs_in shape payload) && (length (new_in shape.format payload) == records_of_runs (runs_in shape payload) * shape.width))))

-- the payload has the form of its kind
abbrev pub is_layout : Shape → ℕ → List ℕ → Bool
is_layout shape kind payload =
    if kind == 1 then is_group_layout shape.width payload
    else if kind == 2 then is_change_layout shape payload
    else length payload == 8
