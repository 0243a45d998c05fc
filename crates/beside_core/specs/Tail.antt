-- The last records of a vector as bytes, those before them as edits, and what frames make of both.
use Rattle.std.specs.Prelude.{◌≡◌, ℕ, ◌+◌, ◌-◌, ◌*◌, ◌<◌, ◌≤◌, true, List, ◌∷◌, [], ◌++◌, length, take, drop, Some, None, Result, MatchResult}
use Rattle.std.specs.List.{flat_map}
use Rattle.record_core.specs.Limits.{record_limit}
use Rattle.record_core.specs.Bytes.{Encoding}
use Rattle.record_core.specs.Cells.{cell}
use Rattle.segment_core.specs.declared.tally.Tally.{Tally}
use Rattle.segment_core.specs.Frame.{Run, Frame, Change, Shrink, frame_text, closed_gate, records_of_runs}
use Rattle.segment_core.specs.Tally.{after, tally_from, MayFollow, AreLegalFrom}
use Rattle.segment_core.specs.Command.{replaced}
use Rattle.segment_core.specs.Reading.{runs_of, record_bytes_of, record_count}
use Rattle.segment_core.specs.Fault.{frame_fault, is_closed}
use Rattle.segment_core.specs.Raw.{cells_in, after_frame}
use Rattle.beside_core.specs.declared.bookmark.Bookmark.{Bookmark}
use Rattle.beside_core.specs.declared.fault.LookFault.{LookFault}
use Rattle.beside_core.specs.declared.fault.LookFault.TheVariants.{Disk, Scan, NoRecord, TooFar, Memory}
use Rattle.beside_core.specs.declared.laying.Laid.{Laid}
use Rattle.beside_core.specs.declared.news.Edit.{Edit}
use Rattle.beside_core.specs.declared.since.Loss.{Loss}
use Rattle.beside_core.specs.declared.since.Loss.TheVariants.{Changed, Shorter}
use Rattle.beside_core.specs.MayDiffer.{LiesInRuns}
use Rattle.beside_core.specs.Edit.{IsEdited, AreNoted, loss_of}
use Rattle.beside_core.specs.Look.{IsAmong}
use Rattle.beside_core.specs.Replay.{replayed}

-- these bytes are so many records, from position base on
pub record FillsTail (width base size : ℕ) (tail : List ℕ) : Type 0 where
  pub behind : base ≤ size
  pub filled : length tail ≡ (size - base) * width

-- this frame may come behind them
pub record MayFollowTail (width base : ℕ) (tally : Tally) (frame : Frame) (tail : List ℕ) : Type 0 where
  pub is_tail : FillsTail width base tally.size tail
  pub small : tally.size ≤ record_limit
  pub may : MayFollow tally frame

-- what the edits leave of the known records, and the tail behind it, are these so many
pub record Stands {R : Type 0} (form : Encoding R) (known : List (List ℕ)) (size : ℕ) (laid : Laid R) (cells : List (List ℕ)) : Type 0 where
  pub front : List (List ℕ)
  pub edited : IsEdited form laid.edits.items known front
  pub long : length front ≡ laid.base
  pub is : cells ≡ front ++ cells_in form.width (size - laid.base) laid.tail.items

-- why records before a position are no more what they were, if these frames came
abbrev pub IsLossBy : ℕ → List Frame → Loss → Type 0
IsLossBy base frames (Changed i) = (i < base) × (runs : List Run) × (bytes : List ℕ) × IsAmong (Change runs bytes) frames × LiesInRuns i runs
IsLossBy base frames (Shorter n) = (n < base) × IsAmong (Shrink n) frames

-- by a change among the frames, the bytes of the record at position i are none of the type
pub record PutsNoRecord {R : Type 0} (form : Encoding R) (frames : List Frame) (i : ℕ) : Type 0 where
  pub before : List Run
  pub run : Run
  pub behind : List Run
  pub bytes : List ℕ
  pub among : IsAmong (Change (before ++ run ∷ behind) bytes) frames
  pub place : ℕ
  pub inside : place < run.count
  pub at : i ≡ run.start + place
  pub bad : form.value_of (cell form.width bytes (records_of_runs before + place)) ≡ None

-- why frames of a file that is whole can't be replayed
abbrev pub IsReplayFault : {R : Type 0} → Encoding R → ℕ → List Frame → LookFault → Type 0
IsReplayFault form base frames (Disk fault) = ⊥
IsReplayFault form base frames (Scan fault) = ⊥
IsReplayFault form base frames (NoRecord i) = (i < base) × PutsNoRecord form frames i
IsReplayFault form base frames TooFar = ⊥
IsReplayFault form base frames Memory = Unit {0}

-- ---- a run, a change, a frame

-- why records that stand from a position on can't be read
abbrev pub IsDecodeFault : {R : Type 0} → Encoding R → ℕ → List ℕ → ℕ → LookFault → Type 0
IsDecodeFault form position bytes count (NoRecord i) = (k : ℕ) × (i ≡ position + k) × (k < count) × (form.value_of (cell form.width bytes k) ≡ None)
IsDecodeFault form position bytes count (Disk fault) = ⊥
IsDecodeFault form position bytes count (Scan fault) = ⊥
IsDecodeFault form position bytes count TooFar = ⊥
IsDecodeFault form position bytes count Memory = Unit {0}

-- an edit sets one of so many records from a position on
abbrev pub IsSetIn : {R : Type 0} → ℕ → ℕ → Edit R → Type 0
IsSetIn start count edit = (k : ℕ) × (k < count) × (loss_of edit ≡ Changed (start + k))

-- edits are noted that put the records of these bytes at a position and behind it
pub record NotesRun {R : Type 0} (form : Encoding R) (start count : ℕ) (bytes : List ℕ) (old new : List (Edit R)) : Type 0 where
  pub noted : AreNoted (IsSetIn start count) old new
  pub is : (known front : List (List ℕ)) → IsEdited form old known front → ((k : ℕ) → k < count → start + k < length front)
      → IsEdited form new known (take start front ++ cells_in form.width count bytes ++ drop (start + count) front)

-- a run was replaced
pub record ReplacesRun {R : Type 0} (form : Encoding R) (start count : ℕ) (bytes : List ℕ) (size : ℕ) (old new : Laid R) : Type 0 where
  pub base_is : new.base ≡ old.base
  pub long : length new.tail.items ≡ length old.tail.items
  pub noted : AreNoted (λ edit. (k : ℕ) × (k < count) × (start + k < old.base) × (loss_of edit ≡ Changed (start + k))) old.edits.items new.edits.items
  pub is : (known cells : List (List ℕ)) → Stands form known size old cells
      → Stands form known size new (take start cells ++ cells_in form.width count bytes ++ drop (start + count) cells)

-- the runs of a change were
pub record IsReplacedIn {R : Type 0} (form : Encoding R) (size : ℕ) (frame : Frame) (old new : Laid R) : Type 0 where
  pub base_is : new.base ≡ old.base
  pub long : length new.tail.items ≡ length old.tail.items
  pub noted : AreNoted (λ edit. IsLossBy old.base (frame ∷ []) (loss_of edit)) old.edits.items new.edits.items
  pub is : (known cells : List (List ℕ)) → Stands form known size old cells
      → Stands form known size new (replaced cells (runs_of frame) (cells_in form.width (record_count frame) (record_bytes_of frame)))

-- a frame was taken in
pub record TakesFrame {R : Type 0} (form : Encoding R) (tally : Tally) (frame : Frame) (old new : Laid R) : Type 0 where
  pub is_tail : FillsTail form.width new.base (after tally frame).size new.tail.items
  pub lower : new.base ≤ old.base
  pub noted : AreNoted (λ edit. IsLossBy old.base (frame ∷ []) (loss_of edit)) old.edits.items new.edits.items
  pub same_base : new.edits.items ≡ old.edits.items → new.base ≡ old.base
  pub is : (known cells : List (List ℕ)) → Stands form known tally.size old cells → Stands form known (after tally frame).size new (after_frame form.width cells frame)

-- ---- all frames

-- the first edit is of one of the frames; without one the tail begins where it began
abbrev pub BeginsWithLoss : {R : Type 0} → ℕ → List Frame → List (Edit R) → ℕ → Type 0
BeginsWithLoss start frames [] base = base ≡ start
BeginsWithLoss start frames (edit ∷ edits) base = IsLossBy start frames (loss_of edit)

-- the frames were taken in, and the bookmark lies behind them
pub record AreTaken {R : Type 0} (form : Encoding R) (mark : Bookmark) (frames : List Frame) (laid : Laid R) (next : Bookmark) : Type 0 where
  pub shape_is : next.shape ≡ mark.shape
  pub gate_is : next.gate ≡ mark.gate + length (flat_map (frame_text mark.shape.format) frames)
  pub tally_is : next.tally ≡ tally_from mark.tally frames
  pub is_tail : FillsTail form.width laid.base next.tally.size laid.tail.items
  pub begins : BeginsWithLoss mark.tally.size frames laid.edits.items laid.base
  pub is : (known : List (List ℕ)) → length known ≡ mark.tally.size → Stands form known next.tally.size laid (replayed form.width known frames)

-- what a replay answers of frames that keep the rules
abbrev pub ReplaysFrames : {R : Type 0} → Encoding R → Bookmark → List ℕ → Result (Laid R × Bookmark × ℕ) LookFault → Type 0
ReplaysFrames form mark text result =
    (frames : List Frame) → text ≡ flat_map (frame_text mark.shape.format) frames ++ closed_gate ∷ [] → AreLegalFrom mark.shape mark.tally frames
    → MatchResult result (λ found. AreTaken form mark frames found.0 found.1) (IsReplayFault form mark.tally.size frames)

-- why no more of a text is replayed than these frames, which this follows
abbrev pub IsReplayEnd : {R : Type 0} → Encoding R → Bookmark → List Frame → List ℕ → LookFault → Type 0
IsReplayEnd form mark frames rest (Disk fault) = ⊥
IsReplayEnd form mark frames rest (Scan fault) = frame_fault mark.shape (mark.gate + length (flat_map (frame_text mark.shape.format) frames)) (tally_from mark.tally frames) rest ≡ Some fault
IsReplayEnd form mark frames rest (NoRecord i) = IsReplayFault form mark.tally.size frames (NoRecord i)
IsReplayEnd form mark frames rest TooFar = ⊥
IsReplayEnd form mark frames rest Memory = Unit {0}

-- what a replay answers of any text: frames that keep the rules begin it, up to a gate that isn't open, or to a fault
pub record ReplaysText {R : Type 0} (form : Encoding R) (mark : Bookmark) (bytes : List ℕ) (result : Result (Laid R × Bookmark × ℕ) LookFault) : Type 0 where
  pub frames : List Frame
  pub rest : List ℕ
  pub text_is : bytes ≡ flat_map (frame_text mark.shape.format) frames ++ rest
  pub legal : AreLegalFrom mark.shape mark.tally frames
  pub end : MatchResult result (λ found. (is_closed rest ≡ true) × AreTaken form mark frames found.0 found.1 × (found.2 ≡ length frames)) (IsReplayEnd form mark frames rest)
