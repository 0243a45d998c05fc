-- A real file as a disk, by its parts.
use Rattle.std.specs.Prelude.{ℕ, List}
use Rattle.disk_core.specs.declared.file.FileDisk.{FileDisk}
use Rattle.disk_core.specs.FileTruth.{FileTruth}
use Rattle.disk_core.specs.File.{file_states, file_faults, HasAgreed}
use Rattle.disk_core.specs.State.{State}

module _ {F : Type 0} where
  abbrev pub truth_of : FileDisk F → FileTruth
  truth_of disk = disk.truth.facts

  abbrev pub states_of : FileDisk F → List State
  states_of disk = file_states disk.truth.facts disk.log.items

  abbrev pub faults_of : FileDisk F → ℕ
  faults_of disk = file_faults disk.log.items

  -- all answers so far were those of a file which keeps the model
  abbrev pub KeepsSoFar : FileDisk F → Type 0
  KeepsSoFar disk = HasAgreed disk.truth.facts disk.log.items
