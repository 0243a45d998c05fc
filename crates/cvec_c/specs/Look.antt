-- What is told of the bytes of a file that another process writes.
use Rattle.std.specs.Prelude.{◌≡◌, ℕ, List, length, Ok, Err}
use Rattle.record_core.specs.Bytes.{Encoding}
use Rattle.segment_core.specs.Shape.{version_of}
use Rattle.beside_core.specs.declared.seen.Seen.{Seen}
use Rattle.beside_core.specs.declared.fault.LookFault.{LookFault}
use Rattle.beside_core.specs.declared.fault.LookFault.TheVariants as look
use Rattle.beside_core.specs.Seen.{IsSeen, IsUnseen, AnswersInTurn}
use Rattle.c_core.specs.declared.refusal.Refusal.{Refusal}
use Rattle.c_core.specs.declared.refusal.Refusal.TheVariants.{Memory, FileFull, NoRecord}
use Rattle.c_core.specs.Records.{AreWritten}
use Rattle.c_core.specs.Refusal.{code_of, of_scan}
use Rattle.cvec_c.specs.declared.stat.CvecStat.{CvecStat}
use Rattle.cvec_c.specs.declared.fault.CvecFault.{CvecFault}
use Rattle.cvec_c.specs.Fault.{fault_record}

-- what is told of what the bytes show
abbrev pub stat_of_seen : {R : Type 0} → Encoding R → Seen R → CvecStat
stat_of_seen form seen = record {
  size = length seen.records.items;
  frames = seen.frames;
  changes = seen.next.tally.changes;
  folded = seen.next.tally.folded;
  gate = seen.next.gate;
  width = form.width;
  version = version_of seen.next.shape.format;
}

-- The bytes show these records, and the fields are what is told of them. If the bytes were read in turn of the file of a
-- pen, it was so at one moment of the reading.
pub record HasShown {R : Type 0} (form : Encoding R) (bytes : List ℕ) (records : List R) (stat : CvecStat) : Type 0 where
  pub seen : Seen R
  pub shows : IsSeen form bytes seen
  pub in_turn : AnswersInTurn form bytes (Ok seen)
  pub records_are : records ≡ seen.records.items
  pub stat_is : stat ≡ stat_of_seen form seen

-- they show records of this form, of which bytes are written so
abbrev pub ShowsBytes : List ℕ → ℕ → List ℕ → List ℕ → ℕ → CvecStat → (R : Type 0) → Encoding R → Type 0
ShowsBytes bytes from old new count stat R form = (records : List R) × HasShown form bytes records stat × AreWritten form records from old new count

-- no file was called, so no call of one failed
abbrev pub IsNoCall : LookFault → Type 0
IsNoCall (look.Disk fault) = ⊥
IsNoCall (look.Scan fault) = Unit {0}
IsNoCall (look.NoRecord position) = Unit {0}
IsNoCall look.TooFar = Unit {0}
IsNoCall look.Memory = Unit {0}

abbrev pub of_look : LookFault → Refusal
of_look (look.Disk fault) = Memory
of_look (look.Scan fault) = of_scan fault
of_look (look.NoRecord position) = NoRecord
of_look look.TooFar = FileFull
of_look look.Memory = Memory

abbrev pub look_record : LookFault → CvecFault
look_record (look.Disk fault) = record { at = 0; cause = 0; found = 0 }
look_record (look.Scan fault) = fault_record fault
look_record (look.NoRecord position) = record { at = position; cause = 0; found = 0 }
look_record look.TooFar = record { at = 0; cause = 0; found = 0 }
look_record look.Memory = record { at = 0; cause = 0; found = 0 }

-- Why they show none, as it is told. If they were read in turn of the file of a pen, they end before it did, or the type is
-- another one, or memory was refused: it isn't called damaged.
pub record LookToldOf (bytes : List ℕ) (answer : ℕ) (fault : CvecFault) (R : Type 0) (form : Encoding R) : Type 0 where
  pub refusal : LookFault
  pub unseen : IsUnseen form bytes refusal
  pub in_turn : AnswersInTurn form bytes (Err refusal)
  pub answer_is : answer ≡ code_of (of_look refusal)
  pub fault_is : fault ≡ look_record refusal
