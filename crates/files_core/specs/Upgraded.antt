-- A file that is copied, or upgraded.
use Rattle.std.specs.Prelude.{◌≡◌, ℕ, List, length, Option, Ok}
use Rattle.std.specs.declared.num.NonZeroU32.{NonZeroU32}
use Rattle.record_core.specs.Bytes.{Encoding}
use Rattle.disk_core.specs.State.{State}
use Rattle.disk_core.specs.Calls.{bytes_of}
use Rattle.segment_core.specs.declared.format.Format.{Format}
use Rattle.segment_core.specs.declared.format.Format.TheVariants.{One, Two}
use Rattle.vault_core.specs.Upgrading.{AreOldCalls, IsCopied, IsCopyFault, IsCopyOfFile, IsFileOfFormat, IsGreatestPiece, IsUpgradeFault, failed_of_old}
use Rattle.vault_core.specs.Vault.{VaultOf, list_of}
use Rattle.files_core.specs.declared.ended.Ended.{Ended}
use Rattle.files_core.specs.declared.ended.Ended.TheVariants.{Done, OutputFailed, Refused}
use Rattle.files_core.specs.declared.fault.FileFault.{FileFault}
use Rattle.files_core.specs.declared.fault.FileFault.TheVariants.{Word, Input, Open, Vault, Grower, Upgrade}
use Rattle.files_core.specs.Texts.{copied_line, upgraded_line}

-- how many calls of the old disk were made, in a file of so many bytes, where it wasn't copied or upgraded for this reason
abbrev pub AreCallsBefore : ℕ → ℕ → FileFault → Type 0
AreCallsBefore len calls (Upgrade fault) = AreOldCalls len fault calls
AreCallsBefore len calls (Word word) = ⊥
AreCallsBefore len calls (Input refusal) = ⊥
AreCallsBefore len calls (Open fault) = ⊥
AreCallsBefore len calls (Vault fault) = ⊥
AreCallsBefore len calls (Grower stopped) = ⊥

-- and how many of them failed
abbrev pub failed_before : FileFault → ℕ
failed_before (Upgrade fault) = failed_of_old fault
failed_before (Word word) = 0
failed_before (Input refusal) = 0
failed_before (Open fault) = 0
failed_before (Vault fault) = 0
failed_before (Grower stopped) = 0

abbrev pub failed_upgrading : Ended → ℕ
failed_upgrading Done = 0
failed_upgrading OutputFailed = 0
failed_upgrading (Refused fault) = failed_before fault

-- how the records are written, and what is known of the disks
module _ {R D N : Type 0} (form : Encoding R) (keeps : D → Type 0) (states : D → List State) (keeps_new : N → Type 0) (states_new : N → List State)
    (faults_new : N → ℕ) where
  -- the disks that were given, and what is left of them
  module _ (old : D) (new : N) (left : D) (left_new : N) where
    -- The records of the file of version 1 stand in the new one, copied in the longest growths.
    pub record IsUpgraded (text : List ℕ) : Type 0 where
      pub piece : ℕ
      pub greatest : IsGreatestPiece Two form.width piece
      pub vault : VaultOf R N
      pub file : keeps left → IsFileOfFormat One form (bytes_of (states old)) (list_of vault)
      pub copied : IsCopied Two form keeps_new states_new faults_new piece (list_of vault) new (Ok vault)
      pub disk_is : vault.pen.disk ≡ left_new
      pub told : text ≡ upgraded_line (length (list_of vault))

    -- they weren't copied
    abbrev pub IsUpgradeRefusal : FileFault → Type 0
    IsUpgradeRefusal (Upgrade fault) =
        (piece : ℕ) × IsGreatestPiece Two form.width piece × IsUpgradeFault form (keeps left) (bytes_of (states old)) keeps_new states_new faults_new piece
        new left_new fault
    IsUpgradeRefusal (Word word) = ⊥
    IsUpgradeRefusal (Input refusal) = ⊥
    IsUpgradeRefusal (Open fault) = ⊥
    IsUpgradeRefusal (Vault fault) = ⊥
    IsUpgradeRefusal (Grower stopped) = ⊥

    -- The records of the file stand in a new one of the asked version or of its own, in growths of so many records or of the most.
    pub record HasCopied (format : Option Format) (block : Option NonZeroU32) (text : List ℕ) : Type 0 where
      pub vault : VaultOf R N
      pub copied : IsCopyOfFile form (keeps left) (bytes_of (states old)) format block keeps_new states_new faults_new (list_of vault) new (Ok vault)
      pub disk_is : vault.pen.disk ≡ left_new
      pub told : text ≡ copied_line (length (list_of vault))

    -- they don't
    abbrev pub IsCopyCommandFault : Option Format → Option NonZeroU32 → FileFault → Type 0
    IsCopyCommandFault format block (Upgrade fault) =
        IsCopyFault form (keeps left) (bytes_of (states old)) format block keeps_new states_new faults_new new left_new fault
    IsCopyCommandFault format block (Word word) = ⊥
    IsCopyCommandFault format block (Input refusal) = ⊥
    IsCopyCommandFault format block (Open fault) = ⊥
    IsCopyCommandFault format block (Vault fault) = ⊥
    IsCopyCommandFault format block (Grower stopped) = ⊥
