-- A group behind a file: why it is refused, and what it makes of an image.
use Rattle.std.specs.Prelude.{◌≡◌, ◌≢◌, ℕ, ◌+◌, ◌*◌, ◌/◌, ◌⊎◌, MatchOption, ◌^◌, ◌<◌, Bool, List, [], ◌∷◌, ◌++◌, length, take, slice_index, Option, Some, None, nat_le, nat_lt, not, ◌==◌, if◌then◌else◌}
use Rattle.record_core.specs.Bytes.{Encoding}
use Rattle.record_core.specs.Cells.{AreRecords}
use Rattle.record_core.specs.Limits.{record_limit, payload_limit}
use Rattle.segment_core.specs.Fault.{is_version}
use Rattle.segment_core.specs.Found.{StandsAt}
use Rattle.c_core.specs.declared.refusal.Refusal.{Refusal}
use Rattle.c_core.specs.declared.refusal.Refusal.TheVariants.{Version, Width, Memory, Empty, OutOfRange, TooLarge, FileFull, NoRoom, NoRecord}
use Rattle.c_core.specs.Records.{AreNone}
use Rattle.c_core.specs.Refusal.{code_of}
use Rattle.cvec_c.specs.declared.stat.CvecStat.{CvecStat}
use Rattle.cvec_c.specs.Stat.{HasStat}

-- ---- refusals

-- what is answered at the first test that holds
abbrev pub first_refusal : List (Bool × Refusal) → Option Refusal
first_refusal [] = None
first_refusal (line ∷ lines) = if line.0 then Some line.1 else first_refusal lines

-- the bytes of a payload at most, in a file of this version
abbrev pub limit_in : ℕ → ℕ
limit_in version = if version == 1 then payload_limit else payload_limit * 16

-- the bytes of a frame of so many records in one growth, and of the gate behind it
abbrev pub append_len : ℕ → ℕ → ℕ
append_len width records = 15 + records * width

-- so many records of this width behind a file, and so many bytes that may be written over
abbrev pub append_lines : ℕ → CvecStat → ℕ → ℕ → List (Bool × Refusal)
append_lines width stat records room =
    (not (is_version stat.version), Version)
    ∷ (not (stat.width == width), Width)
    ∷ (records == 0, Empty)
    ∷ (nat_lt record_limit (stat.size + records), OutOfRange)
    ∷ (nat_lt (limit_in stat.version) (8 + records * width), TooLarge)
    ∷ (nat_le (2 ^ 48) (stat.gate + 14 + records * width), FileFull)
    ∷ (nat_lt room (append_len width records), NoRoom)
    ∷ []

-- ---- images

-- the same bytes stand before this place
abbrev pub IsSameTo : ℕ → List ℕ → List ℕ → Type 0
IsSameTo place image other = take place other ≡ take place image

-- a gate stands there that isn't open
abbrev pub IsShutAt : List ℕ → ℕ → Type 0
IsShutAt image place = (place < length image) × (slice_index image place ≢ 1)

-- These bytes at the gate of a file append the records. Whatever a crash leaves while they are written behind the gate,
-- and after that in its place, is one of the two: the gate is shut, or they all stand there.
pub record AppendsTo {R : Type 0} (form : Encoding R) (old : CvecStat) (new : List R) (bytes : List ℕ) (next : CvecStat) : Type 0 where
  -- while the gate is shut the file is the one from before, whatever stands behind that
  pub before : (image other : List ℕ) (records : List R) → HasStat form image records old → IsSameTo old.gate image other → IsShutAt other old.gate → HasStat form other records old
  -- with the bytes there it has the new records too, whatever stands behind them
  pub after : (image other : List ℕ) (records : List R)
      → HasStat form image records old → IsSameTo old.gate image other → StandsAt other old.gate bytes
      → HasStat form other (records ++ new) next
  -- the next gate is the last of the bytes
  pub next_gate : next.gate + 1 ≡ old.gate + length bytes

-- ---- records that come as bytes

-- What is answered: the first test that fails; where none does, that it was done, that memory was refused, or that the bytes are
-- no records of this form.
abbrev pub AnswersFor : CvecStat → List ℕ → ℕ → ℕ → (R : Type 0) → Encoding R → Type 0
AnswersFor stat bytes room answer R form =
    MatchOption (first_refusal (append_lines form.width stat (length bytes / form.width) room))
    ((answer ≡ 0) ⊎ ((answer ≡ code_of Memory) ⊎ ((answer ≡ code_of NoRecord) × AreNone form bytes)))
    (λ refusal. answer ≡ code_of refusal)

-- the bytes are records of this form, and what is written at the gate appends them
abbrev pub AppendsBytes : CvecStat → List ℕ → List ℕ → CvecStat → (R : Type 0) → Encoding R → Type 0
AppendsBytes old bytes out next R form = (records : List R) × AreRecords form bytes records × AppendsTo form old records (take (15 + length bytes) out) next
