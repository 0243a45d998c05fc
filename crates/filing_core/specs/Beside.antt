-- Commands that read a file beside its writer, and what is told of how their engines end.
use Rattle.std.specs.Prelude.{◌≡◌, ◌≢◌, ◌⊎◌, ℕ, Bool, true, false, List, Option, Some, None, Result, Ok, Err}
use Rattle.std.specs.declared.fs.File.{File}
use Rattle.record_core.specs.Bytes.{Encoding}
use Rattle.disk_core.specs.SharedFile.{held_of, now_of, synced_of, HasKept}
use Rattle.disk_core.specs.declared.shared_file.SharedFile.{SharedFile}
use Rattle.segment_core.specs.declared.fault.ScanFault.TheVariants as scans
use Rattle.segment_core.specs.declared.format.Format.{Format}
use Rattle.segment_core.specs.declared.format.Shape.{Shape}
use Rattle.segment_core.specs.Frame.{Frame}
use Rattle.pen_core.specs.declared.fault.OpenFault.TheVariants as opens
use Rattle.pen_core.specs.declared.fault.PenFault.TheVariants as pens
use Rattle.vault_core.specs.declared.fault.VaultFault.TheVariants as vaults
use Rattle.vault_core.specs.declared.upgrading.UpgradeFault.TheVariants as upgrades
use Rattle.files_core.specs.declared.asked.Window.{Window}
use Rattle.files_core.specs.declared.ended.Ended.{Ended}
use Rattle.files_core.specs.declared.ended.Ended.TheVariants as ends
use Rattle.files_core.specs.declared.fault.FileFault.TheVariants as faults
use Rattle.beside_core.specs.declared.fault.LookFault.{LookFault}
use Rattle.beside_core.specs.declared.fault.LookFault.TheVariants.{Disk, Scan, NoRecord, TooFar, Memory}
use Rattle.beside_core.specs.declared.since.Loss.{Loss}
use Rattle.beside_core.specs.declared.since.Loss.TheVariants as losses
use Rattle.follow_core.specs.Answers.{AreListed, AreMeasuresTold, IsCountLine, IsFoundLine}
use Rattle.follow_core.specs.Beside.{AnswersRecords, IsReadBeside, IsSummarizedBeside}
use Rattle.follow_core.specs.Followed.{IsFollowed, IsFollowedWhole, MayEndBy}
use Rattle.follow_core.specs.Place.{IsPlace, place_text}
use Rattle.follow_core.specs.Stepped.{IsFollowedByEvents, IsSteppedWhole}
use Rattle.follow_core.specs.declared.place.Place.{Place}
use Rattle.follow_core.specs.declared.ended.FollowEnd.{FollowEnd}
use Rattle.follow_core.specs.declared.ended.FollowEnd.TheVariants as follows
use Rattle.follow_core.specs.declared.ended.LookEnd.{LookEnd}
use Rattle.follow_core.specs.declared.ended.LookEnd.TheVariants as looks
use Rattle.follow_core.specs.declared.pause.Rest.{Rest}
use Rattle.follow_core.specs.declared.pause.Rest.TheVariants as rests
use Rattle.stat_core.specs.declared.writing.Form.{Form}
use Rattle.text_core.specs.declared.status.Status.{Status}
use Rattle.text_core.specs.declared.status.Status.TheVariants as statuses
use Rattle.sentences.specs.declared.beside.BesideFault.{BesideFault}
use Rattle.sentences.specs.declared.beside.BesideFault.TheVariants as besides
use Rattle.sentences.specs.declared.complaint.Complaint.{Complaint}
use Rattle.sentences.specs.declared.complaint.Complaint.TheVariants as complaints
use Rattle.filing_core.specs.Complaints.{IsJustOpened}
use Rattle.filing_core.specs.Copying.{HadRecords, MayBeUnread}
use Rattle.filing_core.specs.declared.access.Readable.{Readable}
use Rattle.filing_core.specs.declared.access.Readable.TheVariants.{Locked, Beside}
use Rattle.filing_core.specs.declared.polling.Looks.{Looks}
use Rattle.filing_core.specs.declared.polling.Looks.TheVariants.{Once, Each}
use Rattle.filing_core.specs.declared.searching.Sought.{Sought}
use Rattle.filing_core.specs.declared.searching.Sought.TheVariants as soughts

-- a file of the system that another process writes
abbrev pub Foreign : Type 0
Foreign = SharedFile File

-- no call of it was made yet
pub record IsJustShared (file : Foreign) : Type 0 where
  pub no_time : now_of file ≡ 0
  pub model : HasKept file

abbrev pub IsJustReadable : Readable → Type 0
IsJustReadable (Locked opened) = IsJustOpened opened.disk
IsJustReadable (Beside file) = IsJustShared file

-- ---- how a command ends whose engine ended so

-- why a look is refused, as the commands over a file name it
abbrev pub look_complaint : LookFault → Complaint
look_complaint (Disk fault) = complaints.Fault (faults.Open (opens.Disk fault))
look_complaint (Scan fault) = complaints.Fault (faults.Open (opens.Scan fault))
look_complaint (NoRecord i) = complaints.Beside (besides.BadRecord i)
look_complaint TooFar = complaints.Fault (faults.Vault (vaults.Pen pens.FileFull))
look_complaint Memory = complaints.Fault (faults.Open (opens.Scan scans.Memory))

-- the same of FILE where a new one is made of it
abbrev pub copy_complaint : LookFault → Complaint
copy_complaint (Disk fault) = complaints.Fault (faults.Upgrade (upgrades.Old (opens.Disk fault)))
copy_complaint (Scan fault) = complaints.Fault (faults.Upgrade (upgrades.Old (opens.Scan fault)))
copy_complaint (NoRecord i) = complaints.Beside (besides.BadRecord i)
copy_complaint TooFar = complaints.Fault (faults.Vault (vaults.Pen pens.FileFull))
copy_complaint Memory = complaints.Fault (faults.Upgrade (upgrades.Old (opens.Scan scans.Memory)))

abbrev pub loss_fault : Loss → BesideFault
loss_fault (losses.Changed i) = besides.Changed i
loss_fault (losses.Shorter n) = besides.Shorter n

abbrev pub IsLookStatus : LookEnd → Result Status Complaint → Type 0
IsLookStatus looks.Done filed = filed ≡ Ok statuses.Done
IsLookStatus looks.OutputFailed filed = filed ≡ Ok statuses.OutputFailed
IsLookStatus (looks.Refused fault) filed = filed ≡ Err (look_complaint fault)

-- where the pause says that the file isn't the same one, its name leads elsewhere, or it has become shorter
abbrev pub IsFollowStatus : FollowEnd → Result Status Complaint → Type 0
IsFollowStatus follows.Ended filed = filed ≡ Ok statuses.Done
IsFollowStatus follows.OutputFailed filed = filed ≡ Ok statuses.OutputFailed
IsFollowStatus (follows.Lost loss) filed = filed ≡ Err (complaints.Beside (loss_fault loss))
IsFollowStatus (follows.Refused fault) filed = filed ≡ Err (look_complaint fault)
IsFollowStatus follows.Replaced filed = (filed ≡ Err (complaints.Beside besides.Replaced)) ⊎ (filed ≡ Err (complaints.Beside besides.Cut))

-- ---- the looks of `follow`

-- those that the words ask for: one, or again and again, so many milliseconds apart
abbrev pub looks_asked : ℕ → Bool → Looks
looks_asked poll true = Once
looks_asked poll false = Each poll

-- what a pause of such looks may answer: behind one nothing but the end, and else never that
abbrev pub MayRest : Looks → Rest → Type 0
MayRest Once rests.End = Unit {0}
MayRest Once rests.GoOn = ⊥
MayRest Once rests.Replaced = ⊥
MayRest (Each millis) rests.End = ⊥
MayRest (Each millis) rests.GoOn = Unit {0}
MayRest (Each millis) rests.Replaced = Unit {0}

-- ---- the word PLACE of `follow`

-- the word, where there is one, is this place
abbrev pub IsPlaceOr : Option (List ℕ) → Option Place → Type 0
IsPlaceOr None after = after ≡ None
IsPlaceOr (Some word) after = (place : Place) × (after ≡ Some place) × (place_text place ≡ word)

-- there is one, and it is none
abbrev pub IsNoPlace : Option (List ℕ) → Type 0
IsNoPlace None = ⊥
IsNoPlace (Some word) = (place : Place) → IsPlace place → place_text place ≢ word

-- ---- engines over a file that was opened beside its writer

-- the file is the one that it was, some moments later
pub record IsLeftShared (file left : Foreign) : Type 0 where
  pub same : held_of left ≡ held_of file
  pub model : HasKept left → HasKept file

-- a look of such an engine ended so, and the command with it
pub record IsLookDone (filed : Result Status Complaint) (HasLooked : Foreign → Foreign → LookEnd → Type 0) : Type 0 where
  pub file : Foreign
  pub left : Foreign
  pub end : LookEnd
  pub opened : IsJustShared file
  pub stays : IsLeftShared file left
  pub engine : HasLooked file left end
  pub told : IsLookStatus end filed

-- the same of a follower, by such looks
pub record IsFollowDone (filed : Result Status Complaint) (looks : Looks) (HasFollowed : Foreign → Foreign → FollowEnd → Type 0) : Type 0 where
  pub file : Foreign
  pub left : Foreign
  pub end : FollowEnd
  pub opened : IsJustShared file
  pub stays : IsLeftShared file left
  pub engine : HasFollowed file left end
  pub paused : MayEndBy (MayRest looks) end
  pub told : IsFollowStatus end filed

-- the summary of what the file had at one moment of the look was written in that form
abbrev pub SummarizesBeside : Form → Option (List ℕ) → Option (List ℕ) → Foreign → Foreign → LookEnd → Type 0
SummarizesBeside told_as old new file left end = IsSummarizedBeside told_as (HasKept left) (held_of file) (now_of file) (now_of left) (synced_of left) old new end

module _ {R : Type 0} (form : Encoding R) where
  -- what of version and records the file had at one moment of the look
  abbrev pub HadOnce : Foreign → Foreign → Format → List R → Type 0
  HadOnce file left = HadRecords form (HasKept left) (held_of file) (now_of file) (now_of left) (synced_of left)

  -- why it wasn't read
  abbrev pub IsUnread : Foreign → Foreign → LookFault → Type 0
  IsUnread file left = MayBeUnread form (HasKept left) (held_of file) (now_of file) (now_of left)

  -- what was written is such an answer for what the file had at one moment of the look
  abbrev pub ReadsBeside : (Shape → List ℕ → List Frame → Type 0) → Option (List ℕ) → Option (List ℕ) → Foreign → Foreign → LookEnd → Type 0
  ReadsBeside IsAnswer old new file left end = IsReadBeside form IsAnswer (HasKept left) (held_of file) (now_of file) (now_of left) (synced_of left) old new end

  -- what `check` tells of the file
  abbrev pub CheckedBeside : Shape → List ℕ → List Frame → Type 0
  CheckedBeside = AreMeasuresTold form

  -- the records of the window, one a line
  abbrev pub ListedBeside : (R → List ℕ) → Window → Shape → List ℕ → List Frame → Type 0
  ListedBeside text_of window shape = AnswersRecords form (AreListed text_of window.from window.count)

  -- what is told of the records that are the one wanted, by what is sought
  abbrev pub SoughtBeside : Sought → R → Shape → List ℕ → List Frame → Type 0
  SoughtBeside soughts.Count wanted shape = AnswersRecords form (IsCountLine wanted)
  SoughtBeside soughts.First wanted shape = AnswersRecords form (IsFoundLine wanted)

  -- the records from a position on were written, each once and settled, and where the pause has ended it all of one moment
  abbrev pub FollowsFrom : (R → List ℕ) → ℕ → Option (List ℕ) → Option (List ℕ) → Foreign → Foreign → FollowEnd → Type 0
  FollowsFrom text_of first old new file left end =
      (HasKept left → IsFollowed form text_of first (held_of file) (now_of left) (synced_of left) old new end)
      × (HasKept left → IsFollowedWhole form text_of first (held_of file) (now_of file) (now_of left) (synced_of left) old new end)

  -- the events behind a place, or of the whole vector, were written, each once and settled, and where the pause has ended it
  -- all until one moment
  abbrev pub FollowsEvents : (R → List ℕ) → Option Place → Option (List ℕ) → Option (List ℕ) → Foreign → Foreign → FollowEnd → Type 0
  FollowsEvents text_of after old new file left end =
      (HasKept left → IsFollowedByEvents form text_of after (held_of file) (now_of file) (now_of left) (synced_of left) old new end)
      × (HasKept left → IsSteppedWhole form text_of after (held_of file) (now_of file) (now_of left) (synced_of left) old new end)
