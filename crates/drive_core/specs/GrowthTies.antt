-- A step of a growth phase, from the world that what is in hand is tied to.
use Rattle.std.specs.Prelude.{ℕ, List}
use Rattle.record_core.specs.Bytes.{Encoding}
use Rattle.disk_core.specs.State.{State}
use Rattle.drive_core.specs.Medium.{Medium, medium}
use Rattle.drive_core.specs.Step.{Step, Answer}
use Rattle.drive_core.specs.World.{World, GrowthPhase}
use Rattle.drive_core.specs.Ties.{GrowingOf, IsGrowing, IsBehindStep, Steps}
use Rattle.drive_core.specs.VaultTies.{calls_between}

-- from this world, with so many device calls, to what is in hand then
abbrev pub GrowthStep : {R D : Type 0} → Medium R D → World R → GrowingOf R D → Step R → Answer R → ℕ → Type 0
GrowthStep m w new asked answer calls = Steps m.form (m.keeps new.flusher.pen.disk) (λ w'. IsBehindStep m w' new) w asked answer calls

abbrev pub GrowthStepsOf : {R D : Type 0} → Encoding R → (D → List State) → (D → ℕ) → (D → Type 0) → GrowingOf R D → GrowingOf R D → Step R → Answer R → ℕ → Type 0
GrowthStepsOf {R} form states faults keeps old new asked answer calls =
    (w : World R) (phase : GrowthPhase) → IsGrowing (medium form states faults keeps) w phase old
    → GrowthStep (medium form states faults keeps) w new asked answer calls

-- with as many as the clock tells
abbrev pub GrowthSteps : {R D : Type 0} → Encoding R → (D → List State) → (D → ℕ) → (D → Type 0) → GrowingOf R D → GrowingOf R D → Step R → Answer R → Type 0
GrowthSteps form states faults keeps old new asked answer =
    GrowthStepsOf form states faults keeps old new asked answer (calls_between (states old.flusher.pen.disk) (states new.flusher.pen.disk))
