-- What the loop over steps keeps.
use Rattle.std.specs.Prelude.{◌≡◌, ℕ, List, Option, None}
use Rattle.record_core.specs.Bytes.{Encoding}
use Rattle.disk_core.specs.State.{State}
use Rattle.drive_core.specs.declared.phase.DrivePhase as code
use Rattle.drive_core.specs.Medium.{Medium, medium}
use Rattle.drive_core.specs.Step.{Step, Answer}
use Rattle.drive_core.specs.World.{World}
use Rattle.drive_core.specs.Run.{Event, AreEvents, AreEventsOf, last}
use Rattle.drive_core.specs.Headline.{AllInner}
use Rattle.drive_core.specs.Phases.{disk_in, IsPhaseInHand}
use Rattle.drive_core.specs.Ties.{Steps, disk_of}
use Rattle.drive_core.specs.VaultTies.{calls_between}

-- What is in hand is tied to the world: the disk always, the rest until something strayed.
pub record IsDriver {R D : Type 0} (m : Medium R D) (w : World R) (phase : code.DrivePhase R D) (strayed : Option ℕ) : Type 0 where
  pub strayed_is : w.strayed ≡ strayed
  pub disk_is : w.disk ≡ disk_of m.states m.faults (disk_in phase)
  pub goes_on : strayed ≡ None → IsPhaseInHand m w phase

-- from this world this step and answer lead to one that is tied to what is in hand then
abbrev pub DriverStep : {R D : Type 0} → Medium R D → World R → D → code.DrivePhase R D → Option ℕ → Step R → Answer R → Type 0
DriverStep m w old new strayed asked answer =
    Steps m.form (m.keeps (disk_in new)) (λ w'. IsDriver m w' new strayed) w asked answer (calls_between (m.states old) (m.states (disk_in new)))

-- so from each world that is tied to what was in hand
abbrev pub DriverSteps : {R D : Type 0} → Encoding R → (D → List State) → (D → ℕ) → (D → Type 0) → code.DrivePhase R D → Option ℕ → code.DrivePhase R D → Option ℕ → Step R
    → Answer R → Type 0
DriverSteps {R} form states faults keeps old strayed_old new strayed_new asked answer =
    (w : World R) → IsDriver (medium form states faults keeps) w old strayed_old
    → DriverStep (medium form states faults keeps) w (disk_in old) new strayed_new asked answer

-- From a world a run of these steps with these answers and counts leads to one that what is in hand is tied to.
pub record HasRun {R : Type 0} (form : Encoding R) (keeps : Type 0) (Tied : World R → Type 0) (w : World R) (steps : List (Step R)) (answers : List (Answer R)) (calls : List ℕ) : Type 0 where
  pub events : List (Event R)
  pub are_of : AreEventsOf steps answers calls events
  pub run : AreEvents form keeps w events
  pub inner : keeps → AllInner form w events
  pub tied : Tied (last w events)
