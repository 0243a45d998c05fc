-- How a phase begins over a vault.
use Rattle.std.specs.Prelude.{◌≡◌, ℕ, [], length, Option, Some, None}
use Rattle.std.specs.Arc.{arc_value}
use Rattle.std.specs.declared.cmp.PartialEq as PartialEq
use Rattle.record_core.specs.declared.record.Record as Record
use Rattle.disk_core.specs.declared.disk.Disk.{Ghosts}
use Rattle.pen_core.specs.declared.fault.PenFault.{PenFault}
use Rattle.pen_core.specs.declared.fault.PenFault.TheVariants.{Memory}
use Rattle.relay_core.specs.declared.relay_disk.RelayDisk.{RelayDisk}
use Rattle.vault_core.specs.declared.fault.VaultFault.TheVariants.{Pen}
use Rattle.vault_core.specs.Vault.{VaultOf}
use Rattle.vault_core.specs.Sharing.{IsWideShareFault}
use Rattle.phase_core.specs.Room.{IsRoomFor}
use Rattle.phase_core.specs.declared.committer.Committer.{Committer}
use Rattle.phase_core.specs.declared.host_vault.HostVault.{HostVault}
use Rattle.phase_core.specs.declared.phase.Phase.{Phase}

-- why it isn't lent: the vault is as it was; or there was no memory for what the ends share, and none is left
abbrev pub RefusesLending : {R D : Type 0} {disk : Ghosts D} → VaultOf R (RelayDisk D disk) → ℕ → ℕ → Option (VaultOf R (RelayDisk D disk)) → PenFault → Type 0
RefusesLending vault growths seats (Some left) fault = (left ≡ vault) × IsWideShareFault vault growths seats (Pen fault)
RefusesLending vault growths seats None fault = fault ≡ Memory

abbrev pub RefusesShare : {R D : Type 0} {disk : Ghosts D} → HostVault R D disk → ℕ → ℕ → Option (HostVault R D disk) → PenFault → Type 0
RefusesShare it growths seats (Some left) fault = (left ≡ it) × IsWideShareFault it.vault growths seats (Pen fault)
RefusesShare it growths seats None fault = fault ≡ Memory

module _ {R D : Type 0} {record_of : Record.Ghosts R} {eq_of : PartialEq.Ghosts R} {disk : Ghosts D} where
  -- They are of one phase with room for so many growths and so many seats: what the vault has stands in it from before, and no
  -- growth is made. Who commits has the pen, and the host has made the calls that it had made.
  pub record Lends (vault : VaultOf R (RelayDisk D disk)) (made growths seats : ℕ) (phase : Phase R record_of eq_of) (committer : Committer R D record_of eq_of disk) : Type 0 where
    pub opening : (arc_value phase.live).blocks ≡ vault.blocks
    pub one : arc_value committer.live ≡ arc_value phase.live
    pub room : IsRoomFor growths (arc_value phase.live).directory.room
    pub seats_are : length phase.seats.items ≡ seats
    pub pen : committer.flusher.pen ≡ vault.pen
    pub made_same : committer.made ≡ made
    pub begins : (committer.flusher.settled ≡ 0) × (committer.flusher.pass.entries ≡ [])
