-- The head of a frame: its kind, the length of its payload, and the number that begins the payload.
use Rattle.std.specs.Prelude.{◌≡◌, ◌≤◌, ◌<◌, ℕ, ◌+◌, ◌^◌, min, true, List, ◌++◌, length, slice_index, Option, Some, None, Result, Ok, Err}
use Rattle.segment_core.specs.declared.frame_head.FrameHead.{FrameHead}
use Rattle.segment_core.specs.declared.frame_head.Unread.{Unread}
use Rattle.segment_core.specs.declared.frame_head.Unread.TheVariants.{Short, Fault}
use Rattle.segment_core.specs.declared.format.Format.{Format}
use Rattle.segment_core.specs.declared.format.FrameKind.{FrameKind}
use Rattle.segment_core.specs.declared.format.FrameKind.TheVariants.{Group, Change, Shrink, Fold}
use Rattle.segment_core.specs.declared.format.Shape.{Shape}
use Rattle.segment_core.specs.Shape.{limit_of}
use Rattle.segment_core.specs.Frame.{open_gate, frame_head_len, number_len}
use Rattle.segment_core.specs.Kind.{kind_byte}
use Rattle.segment_core.specs.Layout.{u32_at, u64_at, count_in, run_count_in}
use Rattle.segment_core.specs.Fault.{is_closed, kind_in, payload_len_in, payload_in}
use Rattle.segment_core.specs.Reading.{IsShort, IsFaulty}

-- ---- the first number of a payload

-- of growths, of runs, a length, or of changes
abbrev pub first_number : Format → FrameKind → List ℕ → ℕ
first_number format Group payload = count_in payload
first_number format Change payload = run_count_in format payload
first_number format Shrink payload = u64_at payload 0
first_number format Fold payload = u64_at payload 0

-- a payload of this length may begin with this number
abbrev pub FitsNumber : Format → FrameKind → ℕ → ℕ → Type 0
FitsNumber format Group len n = (4 ≤ len) × (n < 2 ^ 32)
FitsNumber format Change len n = (number_len format ≤ len) × (n < 2 ^ 32)
FitsNumber format Shrink len n = len ≡ 8
FitsNumber format Fold len n = len ≡ 8

-- ---- the head

-- the bytes of a frame that are looked at: its head, and the longest number that begins a payload
abbrev pub front_len : ℕ
front_len = 14

-- these are the first bytes of others, of which there are so many
pub record IsFrontOf (bytes front : List ℕ) (left : ℕ) : Type 0 where
  pub size : length bytes ≡ left
  pub enough : length front ≡ min front_len left
  pub rest : List ℕ
  pub is : bytes ≡ front ++ rest

-- What the front of a frame shows of its payload: the number that it begins with.
pub record Shows (front payload : List ℕ) : Type 0 where
  pub count : 4 ≤ length payload → u32_at payload 0 ≡ u32_at front frame_head_len
  pub number : 8 ≤ length payload → u64_at payload 0 ≡ u64_at front frame_head_len

-- what is known of the head whatever the bytes, of which there are so many
pub record FitsIn (format : Format) (left : ℕ) (head : FrameHead) : Type 0 where
  pub number : FitsNumber format head.kind head.payload_len head.number
  pub inside : frame_head_len + head.payload_len ≤ left

-- the bytes begin with a frame that is whole, and this is its head
pub record IsHead (shape : Shape) (bytes : List ℕ) (head : FrameHead) : Type 0 where
  pub some : 0 < length bytes
  pub opened : slice_index bytes 0 ≡ open_gate
  pub kind : kind_byte head.kind ≡ kind_in bytes
  pub len : head.payload_len ≡ payload_len_in bytes
  pub small : payload_len_in bytes ≤ limit_of shape.format
  pub whole : frame_head_len + payload_len_in bytes ≤ length bytes
  pub number : head.number ≡ first_number shape.format head.kind (payload_in bytes)

-- what is answered of the frame whose gate is at p, where bytes is the image from there on
abbrev pub IsNextHead : Shape → ℕ → List ℕ → Result (Option FrameHead) Unread → Type 0
IsNextHead shape p bytes (Ok None) = is_closed bytes ≡ true
IsNextHead shape p bytes (Ok (Some head)) = IsHead shape bytes head
IsNextHead shape p bytes (Err Short) = IsShort shape p bytes
IsNextHead shape p bytes (Err (Fault fault)) = IsFaulty shape p bytes fault
