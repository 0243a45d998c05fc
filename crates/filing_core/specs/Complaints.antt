-- Why a command over a file is refused, and what is told of it.
use Rattle.std.specs.Prelude.{◌≡◌, ◌∷◌, [], ℕ, List, Option, Some, None, Result, Ok, Err}
use Rattle.std.specs.Io.KnownBytes.{Keeps}
use Rattle.record_core.specs.Bytes.{Encoding}
use Rattle.disk_core.specs.File.{opened}
use Rattle.disk_core.specs.Moments.{LeavesOnly}
use Rattle.disk_core.specs.State.{now, IsImage}
use Rattle.disk_core.specs.FileDisk.{KeepsSoFar, faults_of, states_of, truth_of}
use Rattle.disk_core.specs.Calls.{bytes_of}
use Rattle.disk_core.specs.declared.file.FileDisk.{FileDisk}
use Rattle.segment_core.specs.declared.fault.ScanFault.TheVariants as scans
use Rattle.pen_core.specs.declared.fault.OpenFault.{OpenFault}
use Rattle.pen_core.specs.declared.fault.OpenFault.TheVariants as opens
use Rattle.vault_core.specs.declared.upgrading.UpgradeFault.TheVariants as upgrades
use Rattle.flush_core.specs.declared.fault.FlushFault.TheVariants as flushes
use Rattle.vault_core.specs.declared.fault.VaultFault.TheVariants as vaults
use Rattle.serve_core.specs.declared.fault.ServeFault.{ServeFault}
use Rattle.serve_core.specs.declared.fault.ServeFault.TheVariants as serves
use Rattle.stat_core.specs.declared.fault.StatFault.{StatFault}
use Rattle.stat_core.specs.declared.fault.StatFault.TheVariants as stats
use Rattle.stat_core.specs.declared.telling.StatEnded.{StatEnded}
use Rattle.stat_core.specs.declared.telling.StatEnded.TheVariants as stat_ends
use Rattle.files_core.specs.declared.appended.Appended.{Appended}
use Rattle.files_core.specs.declared.ended.Ended.{Ended}
use Rattle.files_core.specs.declared.ended.Ended.TheVariants.{Done, OutputFailed, Refused}
use Rattle.files_core.specs.declared.fault.FileFault.{FileFault}
use Rattle.files_core.specs.declared.fault.FileFault.TheVariants.{Input, Open, Vault, Upgrade}
use Rattle.files_core.specs.SoundFront.{IsSoundFront}
use Rattle.text_core.specs.declared.refusal.Refusal.TheVariants as refusals
use Rattle.text_core.specs.declared.status.Status.{Status}
use Rattle.text_core.specs.declared.status.Status.TheVariants as statuses
use Rattle.sentences.specs.declared.complaint.Complaint.{Complaint}
use Rattle.sentences.specs.declared.complaint.Complaint.TheVariants as complaints
use Rattle.sentences.specs.declared.role.Role.{Role}
use Rattle.sentences.specs.declared.role.Role.TheVariants as roles
use Rattle.filing_core.specs.declared.noting.NotedFile.{NotedFile}

-- a file of the system, as a disk; its refused calls are noted
abbrev pub Disk : Type 0
Disk = FileDisk NotedFile

-- no call of the disk was made yet
pub record IsJustOpened (disk : Disk) : Type 0 where
  pub holds : states_of disk ≡ opened (truth_of disk).held ∷ []
  pub no_fault : faults_of disk ≡ 0
  pub model : KeepsSoFar disk

-- a disk was only read, and no call of it failed
pub record IsLookedAt (disk after : Disk) : Type 0 where
  pub same : KeepsSoFar after → now (states_of after) ≡ now (states_of disk)
  pub images : KeepsSoFar after → LeavesOnly (states_of disk) (states_of after) (IsImage (now (states_of disk)))
  pub no_fault : faults_of after ≡ faults_of disk
  pub model : KeepsSoFar after → KeepsSoFar disk

-- a file of that role can't be opened or made, or another command has it
abbrev pub IsUnopened : Role → Complaint → Type 0
IsUnopened role (complaints.NotOpened of error) = of ≡ role
IsUnopened role (complaints.InUse of) = of ≡ role
IsUnopened role other = ⊥

-- a pipe of the clients isn't there, or there is no memory for its name
abbrev pub IsUnserved : Complaint → Type 0
IsUnserved (complaints.NotOpened role error) = role ≡ roles.Pipe
IsUnserved (complaints.Fault fault) = fault ≡ Input refusals.Memory
IsUnserved other = ⊥

-- the place of the damage that a fault tells of
abbrev pub damage_in : OpenFault → Option ℕ
damage_in (opens.Scan (scans.Damaged at cause)) = Some at
damage_in other = None

abbrev pub damage_of : FileFault → Option ℕ
damage_of (Open fault) = damage_in fault
damage_of (Upgrade (upgrades.Old fault)) = damage_in fault
damage_of other = None

-- So many records are sound before the damage that the fault tells of, by the bytes of the disk that an engine left. It was then
-- read once more, which left the last one.
pub record IsSoundOn {R : Type 0} (form : Encoding R) (left last : Disk) (fault : FileFault) (sound : ℕ) : Type 0 where
  pub at : ℕ
  pub damaged : damage_of fault ≡ Some at
  pub looked : IsLookedAt left last
  pub front : KeepsSoFar last → IsSoundFront form (bytes_of (states_of left)) at sound

-- The complaint has the fault of the engine that left this disk, and of a damaged file how much of it is sound.
abbrev pub IsComplaintOf : {R : Type 0} → Encoding R → Disk → FileFault → Complaint → Type 0
IsComplaintOf form left fault (complaints.Fault told) = told ≡ fault
IsComplaintOf form left fault (complaints.Damaged sound told) = (told ≡ fault) × (last : Disk) × IsSoundOn form left last fault sound
IsComplaintOf form left fault other = ⊥

-- the complaint of `append` or `load` has also what was settled, where the file was opened
abbrev pub IsAppendComplaint : {R : Type 0} → Encoding R → Appended → Disk → FileFault → Complaint → Type 0
IsAppendComplaint form appended left (Open fault) complaint = IsComplaintOf form left (Open fault) complaint
IsAppendComplaint form appended left fault complaint = complaint ≡ complaints.Appended appended fault

-- why not all was served, as a fault of a command over a file
abbrev pub served_fault : ServeFault → FileFault
served_fault (serves.Open fault) = Open fault
served_fault (serves.Share fault) = Vault fault
served_fault serves.Thread = Input refusals.Memory
served_fault (serves.Flush (flushes.Pen fault)) = Vault (vaults.Pen fault)
served_fault (serves.Flush (flushes.Strayed number)) = Vault (vaults.Unsettled number)

abbrev pub IsServeComplaint : {R : Type 0} → Encoding R → Disk → ℕ → ServeFault → Complaint → Type 0
IsServeComplaint form left growths (serves.Open fault) complaint = IsComplaintOf form left (Open fault) complaint
IsServeComplaint form left growths fault complaint = complaint ≡ complaints.Served growths (served_fault fault)

-- why a file has no summary: of a damaged one with how many records the frames before that leave
abbrev pub stat_complaint : StatFault → Complaint
stat_complaint (stats.Disk fault) = complaints.Fault (Open (opens.Disk fault))
stat_complaint (stats.Header fault) = complaints.Fault (Open (opens.Scan fault))
stat_complaint (stats.Frame fault before) = complaints.Damaged before.size (Open (opens.Scan fault))

-- ---- how a command ends whose engine ended so

abbrev pub IsStatusOf : (FileFault → Complaint → Type 0) → Ended → Result Status Complaint → Type 0
IsStatusOf IsComplaint Done filed = filed ≡ Ok statuses.Done
IsStatusOf IsComplaint OutputFailed filed = filed ≡ Ok statuses.OutputFailed
IsStatusOf IsComplaint (Refused fault) filed = (complaint : Complaint) × (filed ≡ Err complaint) × IsComplaint fault complaint

abbrev pub IsStatStatus : StatEnded → Result Status Complaint → Type 0
IsStatStatus stat_ends.Done filed = filed ≡ Ok statuses.Done
IsStatStatus (stat_ends.Unwritten error) filed = filed ≡ Ok statuses.OutputFailed
IsStatStatus (stat_ends.Refused fault) filed = filed ≡ Err (stat_complaint fault)

-- ---- what is refused before an engine is called

module _ (old new : Option (List ℕ)) (filed : Result Status Complaint) where
  -- its words or its input were refused, for such a reason, and nothing was written
  pub record IsRefusedBefore (IsReason : FileFault → Type 0) : Type 0 where
    pub fault : FileFault
    pub why : IsReason fault
    pub told : filed ≡ Err (complaints.Fault fault)
    pub quiet : Keeps old new

  -- it was refused with such a complaint, and nothing was written
  pub record IsLeftAlone (IsWhy : Complaint → Type 0) : Type 0 where
    pub complaint : Complaint
    pub why : IsWhy complaint
    pub told : filed ≡ Err complaint
    pub quiet : Keeps old new

  -- this file wasn't opened, and nothing was written
  abbrev pub IsLeftUnopened : Role → Type 0
  IsLeftUnopened role = IsLeftAlone (IsUnopened role)
