-- What a command reads of a file beside its writer, and writes of it.
use Rattle.std.specs.Prelude.{◌≡◌, ◌≢◌, ℕ, ◌+◌, ◌<◌, ◌≤◌, List, [], length, Option}
use Rattle.std.specs.Io.KnownBytes.{Appends, Keeps}
use Rattle.record_core.specs.Bytes.{Encoding}
use Rattle.segment_core.specs.declared.format.Shape.{Shape}
use Rattle.segment_core.specs.Frame.{Frame, text as spelled}
use Rattle.segment_core.specs.Raw.{AreReadAs}
use Rattle.stat_core.specs.Summary.{summary_of_frames}
use Rattle.stat_core.specs.Text.{summary_text}
use Rattle.stat_core.specs.declared.writing.Form.{Form}
use Rattle.beside_core.specs.declared.fault.LookFault.{LookFault}
use Rattle.beside_core.specs.Fault.{IsNoDamage}
use Rattle.beside_core.specs.PensFile.{IsPensFile}
use Rattle.beside_core.specs.Replay.{vector_left}
use Rattle.beside_core.specs.Since.{MayRefuse}
use Rattle.follow_core.specs.declared.ended.LookEnd.{LookEnd}
use Rattle.follow_core.specs.declared.ended.LookEnd.TheVariants.{Done, Refused, OutputFailed}

-- The frames of one moment between two were so, and all that stood at that moment is on the device.
pub record WereOnce (frames : ℕ → List Frame) (from to synced : ℕ) (AreSo : List Frame → Type 0) : Type 0 where
  pub moment : ℕ
  pub begun : from ≤ moment
  pub until : moment ≤ to
  pub settled : frames moment ≢ [] → moment < synced
  pub so : AreSo (frames moment)

-- The text is the summary of these frames. The file's length that it tells is that of the frames and their closed gate.
abbrev pub IsSummaryTold : Form → Shape → List ℕ → List Frame → Type 0
IsSummaryTold told_as shape text frames = text ≡ summary_text told_as (summary_of_frames shape (length (spelled shape frames) + 1) frames)

-- these are the records of the vector that frames left
abbrev pub AreRecordsLeft : {R : Type 0} → Encoding R → List Frame → List R → Type 0
AreRecordsLeft form frames records = AreReadAs form (vector_left form.width frames) records

-- the text is the answer for these records
abbrev pub AnswersRecords : {R : Type 0} → Encoding R → (List R → List ℕ → Type 0) → List ℕ → List Frame → Type 0
AnswersRecords {R} form IsAnswer text frames = (records : List R) × AreRecordsLeft form frames records × IsAnswer records text

-- Where the file is a pen's and kept the model, the text that was written is the answer for one moment of the call, and
-- what is refused may be so. Of any file: what is refused has written nothing.
abbrev pub IsAnsweredBeside : (Shape → List ℕ → List Frame → Type 0) → (Shape → (ℕ → List Frame) → ℕ → ℕ → LookFault → Type 0) → Type 0 → (ℕ → List ℕ) → ℕ → ℕ → ℕ → Option (List ℕ)
    → Option (List ℕ) → LookEnd → Type 0
IsAnsweredBeside IsAnswer MayFail kept held from to synced old new Done =
    (text : List ℕ) × Appends old new text
    × (kept → (shape : Shape) (frames : ℕ → List Frame) → IsPensFile shape held frames → WereOnce frames from to synced (IsAnswer shape text))
IsAnsweredBeside IsAnswer MayFail kept held from to synced old new (Refused fault) =
    Keeps old new × (kept → (shape : Shape) (frames : ℕ → List Frame) → IsPensFile shape held frames → MayFail shape frames from to fault)
IsAnsweredBeside IsAnswer MayFail kept held from to synced old new OutputFailed = Unit {0}

-- the same of records of a type: a pen's file is never called damaged
abbrev pub IsReadBeside : {R : Type 0} → Encoding R → (Shape → List ℕ → List Frame → Type 0) → Type 0 → (ℕ → List ℕ) → ℕ → ℕ → ℕ → Option (List ℕ) → Option (List ℕ) → LookEnd → Type 0
IsReadBeside form IsAnswer = IsAnsweredBeside IsAnswer (MayRefuse form)

-- the same of frames, whatever the type of their records
abbrev pub IsSummarizedBeside : Form → Type 0 → (ℕ → List ℕ) → ℕ → ℕ → ℕ → Option (List ℕ) → Option (List ℕ) → LookEnd → Type 0
IsSummarizedBeside told_as = IsAnsweredBeside (IsSummaryTold told_as) (λ shape frames from to. IsNoDamage)
