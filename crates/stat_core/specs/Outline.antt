-- What the first bytes of a frame tell of it.
use Rattle.std.specs.Prelude.{◌≡◌, ◌≤◌, ℕ, ◌+◌, ◌*◌, false, List, length, sum}
use Rattle.segment_core.specs.declared.format.Format.{Format}
use Rattle.segment_core.specs.declared.format.Shape.{Shape}
use Rattle.segment_core.specs.declared.tally.Tally.{Tally}
use Rattle.segment_core.specs.Shape.{limit_of}
use Rattle.segment_core.specs.Frame.{Frame, frame_head_len, runs_len, records_of_runs}
use Rattle.segment_core.specs.Frame as frames
use Rattle.segment_core.specs.Layout.{u64_at, count_in, run_count_in}
use Rattle.segment_core.specs.Tally.{MayFollow}
use Rattle.segment_core.specs.Fault.{is_closed, kind_in, payload_len_in, payload_in}
use Rattle.stat_core.specs.declared.outline.Outline.{Outline}
use Rattle.stat_core.specs.declared.outline.Outline.TheVariants.{Group, Change, Shrink, Fold}

-- that of a frame
abbrev pub outline_of : Frame → Outline
outline_of (frames.Group lengths bytes) = Group (length lengths) (sum lengths)
outline_of (frames.Change runs bytes) = Change (length runs) (records_of_runs runs)
outline_of (frames.Shrink n) = Shrink n
outline_of (frames.Fold count) = Fold count

abbrev pub outline_kind : Outline → ℕ
outline_kind (Group growths records) = 1
outline_kind (Change runs records) = 2
outline_kind (Shrink n) = 3
outline_kind (Fold count) = 4

-- the bytes of such a frame's payload
abbrev pub outline_len : Shape → Outline → ℕ
outline_len shape (Group growths records) = 4 + growths * 4 + records * shape.width
outline_len shape (Change runs records) = runs_len shape.format runs + records * shape.width
outline_len shape (Shrink n) = 8
outline_len shape (Fold count) = 8

-- the number that begins its payload
abbrev pub HasNumber : Format → List ℕ → Outline → Type 0
HasNumber format payload (Group growths records) = count_in payload ≡ growths
HasNumber format payload (Change runs records) = run_count_in format payload ≡ runs
HasNumber format payload (Shrink n) = u64_at payload 0 ≡ n
HasNumber format payload (Fold count) = u64_at payload 0 ≡ count

-- A whole frame begins these bytes, and its head and its payload's first number tell this of it.
pub record IsOutlined (shape : Shape) (bytes : List ℕ) (outline : Outline) : Type 0 where
  pub opened : is_closed bytes ≡ false
  pub kind : kind_in bytes ≡ outline_kind outline
  pub len : payload_len_in bytes ≡ outline_len shape outline
  pub small : payload_len_in bytes ≤ limit_of shape.format
  pub whole : frame_head_len + payload_len_in bytes ≤ length bytes
  pub number : HasNumber shape.format (payload_in bytes) outline

-- It keeps the rules on what may follow, as far as they need no more than that.
abbrev pub MayStand : Tally → Outline → Type 0
MayStand tally (Group growths records) = Unit {0}
MayStand tally (Change runs records) = Unit {0}
MayStand tally (Shrink n) = MayFollow tally (frames.Shrink n)
MayStand tally (Fold count) = MayFollow tally (frames.Fold count)
