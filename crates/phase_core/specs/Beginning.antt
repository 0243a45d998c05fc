-- Why no phase begins over a file whose calls a host makes.
use Rattle.std.specs.Prelude.{◌≡◌, ◌⊎◌, ℕ, List}
use Rattle.record_core.specs.Bytes.{Encoding}
use Rattle.disk_core.specs.declared.file.FileDisk.{FileDisk}
use Rattle.disk_core.specs.FileDisk.{KeepsSoFar, faults_of}
use Rattle.pen_core.specs.declared.fault.OpenFault.{OpenFault}
use Rattle.pen_core.specs.declared.fault.PenFault.{PenFault}
use Rattle.pen_core.specs.declared.fault.PenFault.TheVariants.{Exists, Memory, TooLarge}
use Rattle.pen_core.specs.Births.{IsCreateFault, IsExisting}
use Rattle.pen_core.specs.Opening.{IsOpenRefusal, failed_openings}
use Rattle.pen_core.specs.Pen.{failed_calls}
use Rattle.directory_core.specs.Limits.{place_limit}
use Rattle.relay_core.specs.declared.host_file.HostFile.{HostFile}
use Rattle.vault_core.specs.Sharing.{IsTooLargeWithin}
use Rattle.phase_core.specs.declared.phase.BeginFault.{BeginFault}
use Rattle.phase_core.specs.declared.phase.BeginFault.TheVariants.{Pen, Open}

-- there are no phases of so many growths and seats, or there was no memory
abbrev pub IsLendRefusal : ℕ → ℕ → PenFault → Type 0
IsLendRefusal growths seats fault = (fault ≡ Memory) ⊎ ((fault ≡ TooLarge) × IsTooLargeWithin place_limit growths seats)

-- A file wasn't made of these bytes: it exists already, or a call of it failed. As many calls failed of the disk over it, of which
-- none had before, as the fault says.
pub record IsNotMade (bytes : List ℕ) (fault : PenFault) : Type 0 where
  pub disk : FileDisk HostFile
  pub why : IsCreateFault fault
  pub failed : faults_of disk ≡ failed_calls fault
  pub exists : KeepsSoFar disk → fault ≡ Exists → IsExisting bytes

-- these bytes weren't opened: they have no vector, and that is its first fault; or a call of the file failed, of the disk over it
pub record IsNotOpened {R : Type 0} (form : Encoding R) (bytes : List ℕ) (fault : OpenFault) : Type 0 where
  pub disk : FileDisk HostFile
  pub why : KeepsSoFar disk → IsOpenRefusal form bytes fault
  pub failed : faults_of disk ≡ failed_openings fault

-- why none begins over a new file
abbrev pub IsCreateRefusal : List ℕ → ℕ → ℕ → BeginFault → Type 0
IsCreateRefusal bytes growths seats (Pen fault) = IsLendRefusal growths seats fault ⊎ IsNotMade bytes fault
IsCreateRefusal bytes growths seats (Open fault) = ⊥

-- and over one that is there
abbrev pub IsOpeningRefusal : {R : Type 0} → Encoding R → List ℕ → ℕ → ℕ → BeginFault → Type 0
IsOpeningRefusal form bytes growths seats (Pen fault) = IsLendRefusal growths seats fault
IsOpeningRefusal form bytes growths seats (Open fault) = IsNotOpened form bytes fault
