-- A disk with a fuse, by its parts.
use Rattle.std.specs.Prelude.{ℕ, List}
use Rattle.disk_core.specs.declared.disk.Disk as disk
use Rattle.disk_core.specs.declared.blow.Fuse.{Fuse}
use Rattle.disk_core.specs.declared.fuse.FuseDisk.{FuseDisk}
use Rattle.disk_core.specs.State.{State}
use Rattle.disk_core.specs.History.{logged_states, logged_faults}

module _ {D : Type 0} {g : disk.Ghosts D} where
  -- the disk below
  abbrev pub below : FuseDisk D g → D
  below f = f.inner

  abbrev pub fuse_of : FuseDisk D g → Fuse
  fuse_of f = f.fuse

  abbrev pub states_of : FuseDisk D g → List State
  states_of f = logged_states g.states f.log.items

  abbrev pub faults_of : FuseDisk D g → ℕ
  faults_of f = logged_faults g.faults f.log.items
