-- What the bytes of a file show, from its first one on: the frames up to a gate that isn't open, replayed. What stands
-- behind that gate is nothing.
use Rattle.std.specs.Prelude.{◌≡◌, ℕ, ◌<◌, ◌≤◌, ◌^◌, ◌⊎◌, List, [], ◌++◌, length, drop, slice_get, Some, None, Result, MatchResult, MatchOption}
use Rattle.disk_core.specs.Shared.{InTurn}
use Rattle.record_core.specs.Bytes.{Encoding}
use Rattle.segment_core.specs.declared.fault.Cause.TheVariants.{NoGate, ShortFrame}
use Rattle.segment_core.specs.declared.fault.ScanFault.{ScanFault}
use Rattle.segment_core.specs.declared.fault.ScanFault.TheVariants as faults
use Rattle.segment_core.specs.declared.format.Shape.{Shape}
use Rattle.segment_core.specs.Frame.{Frame, header, header_len, text}
use Rattle.segment_core.specs.Shape.{shape_of, format_in}
use Rattle.segment_core.specs.Tally.{tally_of}
use Rattle.segment_core.specs.Image.{BeginsImage, HasFrames}
use Rattle.segment_core.specs.Fault.{header_fault, frame_fault}
use Rattle.segment_core.specs.Raw.{AreReadAs}
use Rattle.beside_core.specs.declared.bookmark.Bookmark.{Bookmark}
use Rattle.beside_core.specs.declared.fault.LookFault.{LookFault}
use Rattle.beside_core.specs.declared.seen.Seen.{Seen}
use Rattle.beside_core.specs.declared.fault.LookFault.TheVariants.{Disk, Scan, NoRecord, TooFar, Memory}
use Rattle.beside_core.specs.Replay.{vector_left}
use Rattle.beside_core.specs.Bookmark.{LiesBehind}
use Rattle.beside_core.specs.PensFile.{IsPensFile}
use Rattle.beside_core.specs.Since.{MayRefuse}

-- ---- any bytes

-- a sound header for these records begins them, and the bookmark lies behind it
pub record HasHeader {R : Type 0} (form : Encoding R) (bytes : List ℕ) (mark : Bookmark) : Type 0 where
  pub sound : header_fault form.width bytes ≡ None
  pub shape_is : mark.shape ≡ shape_of (format_in bytes) form
  pub lies : LiesBehind mark.shape [] mark
  pub begins : bytes ≡ header mark.shape ++ drop header_len bytes

-- their frames, replayed, leave these records; they are so many, and the bookmark lies at the gate behind them
pub record IsSeen {R : Type 0} (form : Encoding R) (bytes : List ℕ) (seen : Seen R) : Type 0 where
  pub frames : List Frame
  pub framed : HasFrames seen.next.shape bytes frames
  pub wide : seen.next.shape.width ≡ form.width
  pub many : seen.frames ≡ length frames
  pub lies : LiesBehind seen.next.shape frames seen.next
  pub are : AreReadAs form (vector_left form.width frames) seen.records.items

-- frames that keep the rules begin them, and what follows has this fault
abbrev pub HasFrameFault : Shape → List ℕ → ScanFault → Type 0
HasFrameFault shape bytes fault =
    (frames : List Frame) × BeginsImage shape bytes frames × (frame_fault shape (length (text shape frames)) (tally_of frames) (drop (length (text shape frames)) bytes) ≡ Some fault)

-- their frames leave a record at position i whose bytes are none of the type
pub record LacksRecord {R : Type 0} (form : Encoding R) (bytes : List ℕ) (i : ℕ) : Type 0 where
  pub sound : header_fault form.width bytes ≡ None
  pub frames : List Frame
  pub framed : HasFrames (shape_of (format_in bytes) form) bytes frames
  pub cell : List ℕ
  pub stands : slice_get (vector_left form.width frames) i ≡ Some cell
  pub bad : form.value_of cell ≡ None

-- why they show no vector: the header's fault, else that of the frames, else a record that is none
abbrev pub IsUnseen : {R : Type 0} → Encoding R → List ℕ → LookFault → Type 0
IsUnseen form bytes (Disk fault) = ⊥
IsUnseen form bytes (Scan fault) = MatchOption (header_fault form.width bytes) (HasFrameFault (shape_of (format_in bytes) form) bytes fault) (λ first. fault ≡ first)
IsUnseen form bytes (NoRecord i) = LacksRecord form bytes i
IsUnseen form bytes TooFar = 2 ^ 48 < length bytes
IsUnseen form bytes Memory = header_fault form.width bytes ≡ None

-- ---- bytes that were read in turn, beside a pen

-- it is the vector of one moment, with the frames and the gate of that moment
pub record WasSeen {R : Type 0} (form : Encoding R) (shape : Shape) (frames : ℕ → List Frame) (from to : ℕ) (seen : Seen R) : Type 0 where
  pub moment : ℕ
  pub since : from ≤ moment
  pub until : moment ≤ to
  pub many : seen.frames ≡ length (frames moment)
  pub lies : LiesBehind shape (frames moment) seen.next
  pub are : AreReadAs form (vector_left form.width (frames moment)) seen.records.items

-- nothing is wrong but that the bytes end: before a header, a gate or a frame does
abbrev pub IsEnd : ScanFault → Type 0
IsEnd faults.Unborn = Unit {0}
IsEnd faults.NotSegment = Unit {0}
IsEnd (faults.Version version) = ⊥
IsEnd (faults.Width width) = ⊥
IsEnd (faults.Damaged at cause) = (cause ≡ NoGate) ⊎ (cause ≡ ShortFrame)
IsEnd faults.Memory = ⊥

-- they end at or before the gate that was closed at one moment
pub record EndEarly (shape : Shape) (frames : ℕ → List Frame) (from to : ℕ) (bytes : List ℕ) (fault : LookFault) : Type 0 where
  pub moment : ℕ
  pub since : from ≤ moment
  pub until : moment ≤ to
  pub short : length bytes ≤ length (text shape (frames moment))
  pub end : ScanFault
  pub is : fault ≡ Scan end
  pub is_end : IsEnd end

-- what is answered of bytes that stood in the file of a pen, none read before one in front of it
abbrev pub AnswersInTurn : {R : Type 0} → Encoding R → List ℕ → Result (Seen R) LookFault → Type 0
AnswersInTurn form bytes result =
    (held : ℕ → List ℕ) (from to : ℕ) (shape : Shape) (frames : ℕ → List Frame) → InTurn held from to 0 bytes → IsPensFile shape held frames
    → MatchResult result (WasSeen form shape frames from to) (λ fault. MayRefuse form shape frames from to fault ⊎ EndEarly shape frames from to bytes fault)
