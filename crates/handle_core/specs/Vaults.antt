-- What a call makes of a vault, and how an end becomes one.
use Rattle.std.specs.Prelude.{◌≡◌, ◌⊎◌, ℕ, Bool, List, length, Ok, Err}
use Rattle.std.specs.declared.cmp.PartialEq as PartialEq
use Rattle.record_core.specs.Cells.{AreRecords}
use Rattle.record_core.specs.declared.record.Record as Record
use Rattle.disk_core.specs.FileDisk.{states_of, KeepsSoFar}
use Rattle.pen_core.specs.declared.fault.PenFault.{PenFault}
use Rattle.vault_core.specs.declared.fault.VaultFault.{VaultFault}
use Rattle.vault_core.specs.declared.fault.VaultFault.TheVariants.{Pen}
use Rattle.vault_core.specs.Sharing.{IsWideShareFault}
use Rattle.phase_core.specs.declared.ending.GatherFault.{GatherFault}
use Rattle.phase_core.specs.Gathering.{Gathers, RefusesGather}
use Rattle.phase_core.specs.Sharing.{Lends}
use Rattle.phase_core.specs.Folding.{Folds, RefusesFold}
use Rattle.phase_core.specs.HostVault.{list_of}
use Rattle.phase_core.specs.HostCommands.{IsChange, IsResize}
use Rattle.c_core.specs.declared.refusal.Refusal.{Refusal}
use Rattle.c_core.specs.declared.refusal.Refusal.TheVariants.{Memory, NoRecord, NotSo}
use Rattle.c_core.specs.Records.{AreNone, IsRecord, IsNoRecord}
use Rattle.handle_core.specs.Refusals.{of_gather, of_pen, of_vault}
use Rattle.handle_core.specs.declared.end.Role.{Role}
use Rattle.handle_core.specs.declared.end.Role.TheVariants as roles

module _ {R : Type 0} {record_of : Record.Ghosts R} {eq_of : PartialEq.Ghosts R} where
  -- ---- a phase that ends, and one that begins

  -- all that a committer's phase had is in the vault
  abbrev pub GathersIn : Role R record_of eq_of → Role R record_of eq_of → Type 0
  GathersIn (roles.Committer old) (roles.Vault new) = Gathers old new
  GathersIn old new = ⊥

  -- why it isn't gathered: it is as it was, but that it may have learned what was grown; or it is another end, and is as it was
  abbrev pub RefusesGathering : Refusal → Role R record_of eq_of → Role R record_of eq_of → Type 0
  RefusesGathering refusal (roles.Committer old) (roles.Committer new) = (fault : GatherFault) × (refusal ≡ of_gather fault) × RefusesGather fault old new
  RefusesGathering refusal (roles.Committer old) new = ⊥
  RefusesGathering refusal old new = (refusal ≡ NotSo) × (new ≡ old)

  -- the vault is lent to a phase with room for so many growths and so many seats, the first of these ends, and to who commits
  abbrev pub SharesOut : ℕ → ℕ → Role R record_of eq_of → Role R record_of eq_of → Role R record_of eq_of → Type 0
  SharesOut growths seats (roles.Phase phase) (roles.Vault old) (roles.Committer new) = Lends old.vault old.made growths seats phase new
  SharesOut growths seats end old new = ⊥

  -- Why it isn't: it is as it was; or there was no memory for what the ends share, and none is left. Or it is another end, and is
  -- as it was.
  abbrev pub RefusesSharing : ℕ → ℕ → Refusal → Role R record_of eq_of → Role R record_of eq_of → Type 0
  RefusesSharing growths seats refusal (roles.Vault old) (roles.Vault new) =
      (new ≡ old) × ((refusal ≡ Memory) ⊎ ((fault : PenFault) × (refusal ≡ of_pen fault) × IsWideShareFault old.vault growths seats (Pen fault)))
  RefusesSharing growths seats refusal (roles.Vault old) roles.Nothing = refusal ≡ Memory
  RefusesSharing growths seats refusal (roles.Vault old) new = ⊥
  RefusesSharing growths seats refusal old new = (refusal ≡ NotSo) × (new ≡ old)

  -- ---- what is asked of a vault

  -- it is no vault, and is as it was
  abbrev pub IsNoVault : Refusal → Role R record_of eq_of → Role R record_of eq_of → Type 0
  IsNoVault refusal (roles.Vault old) new = ⊥
  IsNoVault refusal old new = (refusal ≡ NotSo) × (new ≡ old)

  -- so many records are in its list
  abbrev pub Measures : ℕ → Role R record_of eq_of → Role R record_of eq_of → Type 0
  Measures size (roles.Vault old) new = (new ≡ roles.Vault old) × (size ≡ length (list_of old))
  Measures size old new = ⊥

  -- ---- commands

  -- the bytes are records, which are written over those from that position on
  abbrev pub Changes : ℕ → List ℕ → Role R record_of eq_of → Role R record_of eq_of → Type 0
  Changes start bytes (roles.Vault old) (roles.Vault new) =
      (records : List R) × AreRecords record_of.form bytes records × IsChange record_of.form old new (Ok tt) start records
  Changes start bytes old new = ⊥

  -- Why not, and what stands then: there was no memory for the records, or the bytes are none, and it is as it was; or so of these
  -- records. Or it is another end, and is as it was.
  abbrev pub RefusesChange : ℕ → List ℕ → Refusal → Role R record_of eq_of → Role R record_of eq_of → Type 0
  RefusesChange start bytes refusal (roles.Vault old) (roles.Vault new) =
      ((new ≡ old) × ((refusal ≡ Memory) ⊎ ((refusal ≡ NoRecord) × AreNone record_of.form bytes)))
      ⊎ ((records : List R) × AreRecords record_of.form bytes records
      × ((fault : VaultFault) × (refusal ≡ of_vault fault) × IsChange record_of.form old new (Err fault) start records))
  RefusesChange start bytes refusal (roles.Vault old) new = ⊥
  RefusesChange start bytes refusal old new = (refusal ≡ NotSo) × (new ≡ old)

  -- the bytes are a record, and it has so many records: those that are more are copies of that one
  abbrev pub Resizes : ℕ → List ℕ → Role R record_of eq_of → Role R record_of eq_of → Type 0
  Resizes size bytes (roles.Vault old) (roles.Vault new) =
      (x : R) × IsRecord record_of.form bytes x × IsResize record_of.form old new (Ok tt) size x
  Resizes size bytes old new = ⊥

  abbrev pub RefusesResize : ℕ → List ℕ → Refusal → Role R record_of eq_of → Role R record_of eq_of → Type 0
  RefusesResize size bytes refusal (roles.Vault old) (roles.Vault new) =
      ((new ≡ old) × (refusal ≡ NoRecord) × IsNoRecord record_of.form bytes)
      ⊎ ((x : R) × IsRecord record_of.form bytes x
      × ((fault : VaultFault) × (refusal ≡ of_vault fault) × IsResize record_of.form old new (Err fault) size x))
  RefusesResize size bytes refusal (roles.Vault old) new = ⊥
  RefusesResize size bytes refusal old new = (refusal ≡ NotSo) × (new ≡ old)

  -- all changes are folded, if there were some
  abbrev pub FoldsAll : Bool → Role R record_of eq_of → Role R record_of eq_of → Type 0
  FoldsAll folded (roles.Vault old) (roles.Vault new) =
      (new.made ≡ old.made) × Folds record_of.form (λ relay. KeepsSoFar relay.inner) (λ relay. states_of relay.inner) folded old.vault new.vault
  FoldsAll folded old new = ⊥

  abbrev pub RefusesFolding : Refusal → Role R record_of eq_of → Role R record_of eq_of → Type 0
  RefusesFolding refusal (roles.Vault old) (roles.Vault new) =
      (new.made ≡ old.made) × ((fault : VaultFault) × (refusal ≡ of_vault fault) × RefusesFold record_of.form (λ relay. KeepsSoFar relay.inner) (λ relay. states_of relay.inner) fault old.vault new.vault)
  RefusesFolding refusal (roles.Vault old) new = ⊥
  RefusesFolding refusal old new = (refusal ≡ NotSo) × (new ≡ old)
