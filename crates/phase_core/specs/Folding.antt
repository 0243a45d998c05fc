-- What a fold makes of a vault.
use Rattle.std.specs.Prelude.{◌≡◌, ◌⊎◌, Bool, List}
use Rattle.disk_core.specs.State.{State}
use Rattle.disk_core.specs.Moments.{LeavesOnly}
use Rattle.record_core.specs.Bytes.{Encoding}
use Rattle.pen_core.specs.Pen.{IsFoldAnswer, IsUnchanged}
use Rattle.vault_core.specs.declared.fault.VaultFault.{VaultFault}
use Rattle.vault_core.specs.Commands.{IsVaultFoldFault}
use Rattle.vault_core.specs.Settles.{IsIdle, IsSettleFault, StandsInFile}
use Rattle.vault_core.specs.Vault.{VaultOf, MayHold, list_of}

module _ {R D : Type 0} (form : Encoding R) (keeps : D → Type 0) (states : D → List State) where
  -- A fold was begun, or none was needed; all that was in hand then stands in the file. The list is what it was, and each image
  -- that a crash may leave meanwhile opens to it, as those of before did.
  pub record Folds (folded : Bool) (old new : VaultOf R D) : Type 0 where
    pub begun : VaultOf R D
    pub answer : IsFoldAnswer old.pen begun.pen folded
    pub begun_same : (begun.blocks ≡ old.blocks) × (begun.sure ≡ old.sure)
    pub idle : IsIdle new.pen
    pub stands : StandsInFile (keeps new.pen.disk) begun.pen new.pen
    pub blocks_same : new.blocks ≡ old.blocks
    pub sure : keeps new.pen.disk → new.sure ≡ list_of new
    pub images : keeps new.pen.disk → LeavesOnly (states begun.pen.disk) (states new.pen.disk) (MayHold form begun)
    pub model : keeps new.pen.disk → keeps begun.pen.disk

  -- Why not: none was begun, and nothing has changed; or a call of the disk has failed. The list is what it was.
  pub record RefusesFold (fault : VaultFault) (old new : VaultOf R D) : Type 0 where
    pub blocks_same : new.blocks ≡ old.blocks
    pub why : (IsVaultFoldFault old.pen fault × IsUnchanged old.pen new.pen)
        ⊎ ((begun : VaultOf R D) × (folded : Bool) × IsFoldAnswer old.pen begun.pen folded × IsSettleFault begun.pen new.pen fault)
