-- What is in hand between two steps, and what ties a world to it.
use Rattle.std.specs.Prelude.{◌≡◌, ℕ, List, None}
use Rattle.record_core.specs.Bytes.{Encoding}
use Rattle.disk_core.specs.State.{State}
use Rattle.drive_core.specs.declared.phase.DrivePhase as code
use Rattle.drive_core.specs.declared.phase.DrivePhase.TheVariants.{Shut, Exclusive, Growth}
use Rattle.drive_core.specs.Medium.{Medium, medium}
use Rattle.drive_core.specs.Step.{Step, Answer}
use Rattle.drive_core.specs.World.{World}
use Rattle.drive_core.specs.World as worlds
use Rattle.drive_core.specs.Ties.{IsGrowing, Steps, disk_of}
use Rattle.drive_core.specs.VaultTies.{IsExclusive, calls_between}

abbrev pub disk_in : {R D : Type 0} → code.DrivePhase R D → D
disk_in (Shut disk) = disk
disk_in (Exclusive vault) = vault.pen.disk
disk_in (Growth growing) = growing.flusher.pen.disk

-- no file is open
pub record IsPhaseShut {R D : Type 0} (m : Medium R D) (w : World R) (disk : D) : Type 0 where
  pub phase_is : w.phase ≡ worlds.Shut
  pub calm : w.strayed ≡ None
  pub disk_is : w.disk ≡ disk_of m.states m.faults disk

-- the world's phase is what is in hand
abbrev pub IsPhaseInHand : {R D : Type 0} → Medium R D → World R → code.DrivePhase R D → Type 0
IsPhaseInHand m w (Shut disk) = IsPhaseShut m w disk
IsPhaseInHand m w (Exclusive vault) = IsExclusive m w vault
IsPhaseInHand m w (Growth growing) = (phase : worlds.GrowthPhase) × IsGrowing m w phase growing

-- Behind a step: the disk is the world's, and the rest too, unless something strayed.
pub record IsWorldLeft {R D : Type 0} (m : Medium R D) (w : World R) (phase : code.DrivePhase R D) : Type 0 where
  pub disk_is : w.disk ≡ disk_of m.states m.faults (disk_in phase)
  pub goes_on : w.strayed ≡ None → IsPhaseInHand m w phase

-- From this world this step and answer lead to one that is tied to what is left.
abbrev pub PhaseStep : {R D : Type 0} → Medium R D → World R → D → code.DrivePhase R D → Step R → Answer R → Type 0
PhaseStep m w old new asked answer =
    Steps m.form (m.keeps (disk_in new)) (λ w'. IsWorldLeft m w' new) w asked answer (calls_between (m.states old) (m.states (disk_in new)))

-- so from each world that is tied to what was in hand
abbrev pub PhaseSteps : {R D : Type 0} → Encoding R → (D → List State) → (D → ℕ) → (D → Type 0) → code.DrivePhase R D → code.DrivePhase R D → Step R → Answer R → Type 0
PhaseSteps {R} form states faults keeps old new asked answer =
    (w : World R) → IsPhaseInHand (medium form states faults keeps) w old → PhaseStep (medium form states faults keeps) w (disk_in old) new asked answer
