-- A file that a command opens.
use Rattle.std.specs.Prelude.{◌≡◌, ◌⊎◌, ℕ, ◌+◌, List, length}
use Rattle.record_core.specs.Bytes.{Encoding}
use Rattle.disk_core.specs.State.{State, now, IsImage}
use Rattle.disk_core.specs.Calls.{bytes_of}
use Rattle.disk_core.specs.Moments.{LeavesOnly}
use Rattle.pen_core.specs.Opening.{IsAtRest, IsOpened, IsOpenRefusal, OnlySyncs, failed_openings}
use Rattle.pen_core.specs.declared.fault.OpenFault.{OpenFault}
use Rattle.vault_core.specs.Vault.{VaultOf, list_of}
use Rattle.files_core.specs.declared.ended.Ended.{Ended}
use Rattle.files_core.specs.declared.ended.Ended.TheVariants.{Done, OutputFailed, Refused}
use Rattle.files_core.specs.declared.fault.FileFault.{FileFault}
use Rattle.files_core.specs.declared.fault.FileFault.TheVariants.{Word, Input, Open, Vault, Grower, Upgrade}
use Rattle.files_core.specs.Ended.{EndsAs}

-- opening the bytes was refused so, where they are known
abbrev pub IsOpenFault : {R : Type 0} → Encoding R → Type 0 → List ℕ → FileFault → Type 0
IsOpenFault form known bytes (Open fault) = known → IsOpenRefusal form bytes fault
IsOpenFault form known bytes (Word word) = ⊥
IsOpenFault form known bytes (Input refusal) = ⊥
IsOpenFault form known bytes (Vault fault) = ⊥
IsOpenFault form known bytes (Grower stopped) = ⊥
IsOpenFault form known bytes (Upgrade fault) = ⊥

-- how many calls of the disk had failed where opening ended a command so
abbrev pub failed_opening : FileFault → ℕ
failed_opening (Open fault) = failed_openings fault
failed_opening (Word word) = 0
failed_opening (Input refusal) = 0
failed_opening (Vault fault) = 0
failed_opening (Grower stopped) = 0
failed_opening (Upgrade fault) = 0

abbrev pub failed_reading : Ended → ℕ
failed_reading Done = 0
failed_reading OutputFailed = 0
failed_reading (Refused fault) = failed_opening fault

module _ {R D : Type 0} (form : Encoding R) (keeps : D → Type 0) (states : D → List State) (faults : D → ℕ) (disk : D) where
  -- A command only read the disk: it may have been refused at opening alone, and nothing was written. A fault of the disk is
  -- told where one of its calls has failed.
  pub record CommandOnlyReads (left : D) (ended : Ended) : Type 0 where
    pub refused : EndsAs (Unit {0}) (IsOpenFault form (keeps left) (bytes_of (states disk))) ended
    pub only_syncs : keeps left → OnlySyncs (states disk) (states left)
    pub faults_are : faults left ≡ faults disk + failed_reading ended
    pub model : keeps left → keeps disk

  -- The file wasn't opened, for this reason, and nothing was written.
  pub record IsNotOpened (left : D) (fault : OpenFault) : Type 0 where
    pub refused : keeps left → IsOpenRefusal form (bytes_of (states disk)) fault
    pub only_syncs : keeps left → OnlySyncs (states disk) (states left)
    pub faults_are : faults left ≡ faults disk + failed_openings fault

  -- the vault that was opened on the disk
  pub record IsOpenedOn (v : VaultOf R D) : Type 0 where
    pub rests : IsAtRest form.width (length (list_of v)) v.pen
    pub opened : keeps v.pen.disk → IsOpened form (bytes_of (states disk)) v.pen (list_of v)
    pub sure : keeps v.pen.disk → v.sure ≡ list_of v
    pub only_syncs : keeps v.pen.disk → OnlySyncs (states disk) (states v.pen.disk)
    pub faults_same : faults v.pen.disk ≡ faults disk
    pub model : keeps v.pen.disk → keeps disk

-- Each image that a crash may have left since then is one that it might have left before, or has P.
abbrev pub LeavesBeforeOr : List State → List State → (List ℕ → Type 0) → Type 0
LeavesBeforeOr old new P = LeavesOnly old new (λ image. IsImage (now old) image ⊎ P image)
