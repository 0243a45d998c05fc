-- A disk in memory, by its states.
use Rattle.std.specs.Prelude.{ℕ, List}
use Rattle.disk_core.specs.declared.ram.RamDisk.{RamDisk}
use Rattle.disk_core.specs.State.{State}
use Rattle.disk_core.specs.History.{alone, logged_states, logged_faults}

abbrev pub states_of : RamDisk → List State
states_of disk = logged_states alone disk.log.items

abbrev pub faults_of : RamDisk → ℕ
faults_of disk = logged_faults (λ below. 0) disk.log.items

-- a disk in memory always has
abbrev pub KeepsSoFar : RamDisk → Type 0
KeepsSoFar disk = Unit {0}
