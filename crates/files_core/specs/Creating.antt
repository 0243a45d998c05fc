-- A file that is made.
use Rattle.std.specs.Prelude.{◌≡◌, ℕ, List, [], Ok, Err}
use Rattle.record_core.specs.Bytes.{Encoding}
use Rattle.disk_core.specs.State.{State, now, IsImage}
use Rattle.segment_core.specs.declared.format.Format.{Format}
use Rattle.segment_core.specs.Shape.{shape_of}
use Rattle.pen_core.specs.Typed.{OpensTo}
use Rattle.vault_core.specs.declared.fault.VaultFault.TheVariants as vault_faults
use Rattle.vault_core.specs.Making.{IsMade}
use Rattle.vault_core.specs.Vault.{VaultOf}
use Rattle.files_core.specs.declared.fault.FileFault.{FileFault}
use Rattle.files_core.specs.declared.fault.FileFault.TheVariants.{Word, Input, Open, Vault, Grower, Upgrade}

module _ {R D : Type 0} (form : Encoding R) (keeps : D → Type 0) (states : D → List State) (faults : D → ℕ) (format : Format) (disk left : D) where
  -- An empty file stands on the disk, made as a vault's is: each image that a crash may leave opens to no record.
  pub record IsCreated : Type 0 where
    pub vault : VaultOf R D
    pub made : IsMade keeps states faults (shape_of format form) disk (Ok vault)
    pub disk_is : vault.pen.disk ≡ left
    pub settled : keeps left → (image : List ℕ) → IsImage (now (states left)) image → OpensTo form image []

  -- it wasn't made, as a vault isn't
  abbrev pub IsCreateRefusal : FileFault → Type 0
  IsCreateRefusal (Vault (vault_faults.Pen fault)) = IsMade {R = R} keeps states faults (shape_of format form) disk (Err (left, fault))
  IsCreateRefusal (Vault (vault_faults.Unsettled number)) = ⊥
  IsCreateRefusal (Vault vault_faults.WrongPhase) = ⊥
  IsCreateRefusal (Open fault) = ⊥
  IsCreateRefusal (Word word) = ⊥
  IsCreateRefusal (Input refusal) = ⊥
  IsCreateRefusal (Grower stopped) = ⊥
  IsCreateRefusal (Upgrade fault) = ⊥
