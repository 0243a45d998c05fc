-- A vault over a file whose calls a host makes.
use Rattle.std.specs.Prelude.{◌≡◌, ◌⊎◌, ℕ, ◌+◌, ◌<◌, ◌≤◌, List, length, slice_get}
use Rattle.disk_core.specs.declared.disk.Disk.{Ghosts}
use Rattle.relay_core.specs.declared.call.Call.{Call}
use Rattle.relay_core.specs.declared.relay_disk.RelayDisk.{RelayDisk}
use Rattle.vault_core.specs.Vault as vaults
use Rattle.phase_core.specs.declared.host_vault.HostVault.{HostVault}
use Rattle.phase_core.specs.Listing.{calls_from}

module _ {R D : Type 0} {disk : Ghosts D} where
  -- its records
  abbrev pub list_of : HostVault R D disk → List R
  list_of it = vaults.list_of it.vault

  -- the disk that lists its calls
  abbrev pub disk_of : HostVault R D disk → RelayDisk D disk
  disk_of it = it.vault.pen.disk

  -- the calls that the host hasn't made
  abbrev pub calls_of : HostVault R D disk → List Call
  calls_of it = calls_from it.made it.vault.pen.disk

-- The records stand from that position on, and nothing else has changed.
pub record AreWritten {R : Type 0} (start : ℕ) (records old new : List R) : Type 0 where
  pub same_length : length new ≡ length old
  pub inside : (k : ℕ) → k < length records → start + k < length old → slice_get new (start + k) ≡ slice_get records k
  pub outside : (i : ℕ) → (i < start) ⊎ (start + length records ≤ i) → slice_get new i ≡ slice_get old i
