-- A file whose live changes are folded.
use Rattle.std.specs.Prelude.{◌≡◌, ◌⊎◌, ℕ, ◌+◌, ◌-◌, ◌≤◌, List}
use Rattle.record_core.specs.Bytes.{Encoding}
use Rattle.disk_core.specs.State.{State, now, IsImage}
use Rattle.disk_core.specs.Calls.{bytes_of}
use Rattle.segment_core.specs.declared.vector.Scanned.{Scanned}
use Rattle.segment_core.specs.Scanned.{IsScanOf}
use Rattle.pen_core.specs.Typed.{OpensTo}
use Rattle.vault_core.specs.declared.fault.VaultFault.{VaultFault}
use Rattle.vault_core.specs.Commands.{IsVaultFoldFault, failed}
use Rattle.vault_core.specs.Settles.{IsIdle, IsSettleFault}
use Rattle.vault_core.specs.Vault.{VaultOf}
use Rattle.pen_core.specs.Pen.{IsKept}
use Rattle.pen_core.specs.PenOf.{PenOf}
use Rattle.disk_core.specs.Moments.{LeavesOnly}
use Rattle.pen_core.specs.Opening.{IsOpenRefusal, OnlySyncs, failed_openings}
use Rattle.files_core.specs.declared.ended.Ended.{Ended}
use Rattle.files_core.specs.declared.ended.Ended.TheVariants.{Done, OutputFailed, Refused}
use Rattle.files_core.specs.declared.fault.FileFault.{FileFault}
use Rattle.files_core.specs.declared.fault.FileFault.TheVariants.{Word, Input, Open, Vault, Grower, Upgrade}
use Rattle.files_core.specs.Opened.{IsOpenedOn, LeavesBeforeOr}
use Rattle.files_core.specs.Texts.{folded_line}

-- the text tells how many changes a scan finds live: of the bytes, where these are known
pub record IsFolded {R : Type 0} (form : Encoding R) (known : Type 0) (bytes text : List ℕ) : Type 0 where
  pub scanned : Scanned R
  pub scan : known → IsScanOf form bytes scanned
  pub told : text ≡ folded_line (scanned.changes - scanned.folded)

-- why a vault wasn't folded: the fold wasn't begun, and nothing has changed, or it was, on the same disk, and a call of that failed
abbrev pub IsFoldingFault : {D : Type 0} → PenOf D → PenOf D → VaultFault → Type 0
IsFoldingFault {D} old new fault = (IsVaultFoldFault old fault × (new.disk ≡ old.disk)) ⊎ ((mid : PenOf D) × (mid.disk ≡ old.disk) × IsSettleFault mid new fault)

-- nothing is in hand, and no change is live
abbrev pub IsAllFolded : {D : Type 0} → PenOf D → Type 0
IsAllFolded pen = IsIdle pen × (pen.tally.changes ≤ pen.tally.folded)

-- The file on the disk is that of a pen of which no change is live: whatever a crash may leave now opens to its frames.
pub record NoneLive {D : Type 0} (keeps : D → Type 0) (states : D → List State) (left : D) : Type 0 where
  pub pen : PenOf D
  pub disk_is : pen.disk ≡ left
  pub folded : IsAllFolded pen
  pub kept : keeps left → IsKept (states left) pen

-- how many calls of the disk had failed where a fold was refused so
abbrev pub failed_fold : FileFault → ℕ
failed_fold (Open fault) = failed_openings fault
failed_fold (Vault fault) = failed fault
failed_fold (Word word) = 0
failed_fold (Input refusal) = 0
failed_fold (Grower stopped) = 0
failed_fold (Upgrade fault) = 0

abbrev pub failed_folding : Ended → ℕ
failed_folding Done = 0
failed_folding OutputFailed = 0
failed_folding (Refused fault) = failed_fold fault

-- The list of the file stays: each image opens to it.
pub record KeepsList {R D : Type 0} (form : Encoding R) (states : D → List State) (disk left : D) : Type 0 where
  pub records : List R
  pub file : OpensTo form (bytes_of (states disk)) records
  pub images : LeavesBeforeOr (states disk) (states left) (λ image. OpensTo form image records)
  pub settled : (image : List ℕ) → IsImage (now (states left)) image → OpensTo form image records

module _ {R D : Type 0} (form : Encoding R) (keeps : D → Type 0) (states : D → List State) (faults : D → ℕ) (disk left : D) where
  -- The file was scanned, then opened as this vault. Its fold was refused, or a call of the disk failed: then one fault more is
  -- counted. Its list stays, too.
  pub record IsNotFolded (fault : VaultFault) : Type 0 where
    pub scanned : D
    pub vault : VaultOf R D
    pub pen : PenOf D
    pub only_syncs : keeps scanned → OnlySyncs (states disk) (states scanned)
    pub no_fault : faults scanned ≡ faults disk
    pub opened : IsOpenedOn form keeps states faults scanned vault
    pub disk_is : pen.disk ≡ left
    pub why : IsFoldingFault vault.pen pen fault
    pub faults_are : faults left ≡ faults disk + failed fault
    pub stays : keeps left → KeepsList form states disk left

  -- Why a file wasn't folded: at scanning or opening it, and then nothing was written; or by the vault.
  abbrev pub IsFoldCommandFault : FileFault → Type 0
  IsFoldCommandFault (Open fault) =
      (keeps left → IsOpenRefusal form (bytes_of (states disk)) fault × LeavesOnly (states disk) (states left) (IsImage (now (states disk))))
      × (faults left ≡ faults disk + failed_openings fault)
  IsFoldCommandFault (Vault fault) = IsNotFolded fault
  IsFoldCommandFault (Word word) = ⊥
  IsFoldCommandFault (Input refusal) = ⊥
  IsFoldCommandFault (Grower stopped) = ⊥
  IsFoldCommandFault (Upgrade fault) = ⊥
