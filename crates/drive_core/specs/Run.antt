-- A run: steps and answers with worlds between them, and the device calls of each step.
use Rattle.std.specs.Prelude.{◌≡◌, ℕ, ◌+◌, ◌≤◌, List, [], ◌∷◌, length, map, Option, Some, None}
use Rattle.record_core.specs.Bytes.{Encoding}
use Rattle.disk_core.specs.Moments.{clock}
use Rattle.segment_core.specs.Command.{Command}
use Rattle.flush_core.specs.declared.lane.Tick.{Tick}
use Rattle.flush_core.specs.declared.lane.Tick.TheVariants as ticks
use Rattle.pen_core.specs.declared.fault.PenFault.TheVariants as pen_fault
use Rattle.drive_core.specs.declared.fault.StepFault.{StepFault}
use Rattle.drive_core.specs.declared.fault.StepFault.TheVariants.{Vault, Grow, Scan}
use Rattle.vault_core.specs.declared.fault.VaultFault.TheVariants as vault
use Rattle.drive_core.specs.Step.{Step, Answer}
use Rattle.drive_core.specs.Step as step
use Rattle.drive_core.specs.World.{World, vector, changed, changed_runs, resize_command, cleared}
use Rattle.drive_core.specs.Rows.{IsStep}

-- ---- the device calls of a step

-- of a step that calls at most so often where the disk fails, and else not
abbrev pub RefusedCalls : StepFault → ℕ → ℕ → Type 0
RefusedCalls (Vault (vault.Pen (pen_fault.Disk fault))) most n = (1 ≤ n) × (n ≤ most)
RefusedCalls (Vault (vault.Pen pen_fault.Exists)) most n = n ≤ most
RefusedCalls (Vault other) most n = n ≡ 0
RefusedCalls (Grow fault) most n = n ≡ 0
RefusedCalls (Scan fault) most n = n ≤ most

abbrev pub TickCalls : Tick → ℕ → Type 0
TickCalls ticks.Step n = n ≡ 1
TickCalls ticks.Done n = n ≡ 1
TickCalls ticks.Idle n = n ≡ 0
TickCalls ticks.Filed n = n ≡ 0
TickCalls ticks.Waiting n = n ≡ 0

abbrev pub OpenFaultCalls : StepFault → ℕ → Type 0
OpenFaultCalls (Vault (vault.Pen (pen_fault.Disk fault))) n = 1 ≤ n
OpenFaultCalls (Vault other) n = n ≡ 0
OpenFaultCalls (Grow fault) n = n ≡ 0
OpenFaultCalls (Scan fault) n = 1 ≤ n

module _ {R : Type 0} where
  abbrev pub LaneCalls : Answer R → ℕ → Type 0
  LaneCalls (step.Ticked ticked) n = TickCalls ticked n
  LaneCalls (step.Refused fault) n = RefusedCalls fault 1 n
  LaneCalls other n = n ≡ 0

  abbrev pub CommandCalls : Option (Command R) → Answer R → ℕ → Type 0
  CommandCalls None answer n = n ≡ 0
  CommandCalls (Some command) step.Fine n = n ≡ 4
  CommandCalls (Some command) (step.Refused fault) n = RefusedCalls fault 4 n
  CommandCalls (Some command) other n = n ≡ 0

  abbrev pub CreateCalls : Answer R → ℕ → Type 0
  CreateCalls step.Fine n = (1 ≤ n) × (n ≤ 8)
  CreateCalls (step.Refused fault) n = RefusedCalls fault 8 n
  CreateCalls other n = n ≡ 0

  abbrev pub OpenCalls : Answer R → ℕ → Type 0
  OpenCalls (step.Size size) n = 1 ≤ n
  OpenCalls (step.Refused fault) n = OpenFaultCalls fault n
  OpenCalls other n = n ≡ 0

  abbrev pub HasCalls : World R → Step R → Answer R → ℕ → Type 0
  HasCalls w (step.Create format) answer n = CreateCalls answer n
  HasCalls w step.Open answer n = OpenCalls answer n
  HasCalls w (step.Change start records) answer n = CommandCalls (changed start records) answer n
  HasCalls w (step.Changes pieces) answer n = CommandCalls (changed_runs pieces) answer n
  HasCalls w (step.Resize size r) answer n = CommandCalls (resize_command (length (vector w)) size r) answer n
  HasCalls w step.Clear answer n = CommandCalls (cleared {R = R} (length (vector w))) answer n
  HasCalls w step.Log answer n = LaneCalls answer n
  HasCalls w step.Home answer n = LaneCalls answer n
  HasCalls w other answer n = n ≡ 0

-- one step of a run
pub record Event (R : Type 0) : Type 0 where
  pub asked : Step R
  pub answer : Answer R
  pub calls : ℕ
  pub after : World R

module _ {R : Type 0} (form : Encoding R) (keeps : Type 0) where
  pub record IsEvent (w : World R) (e : Event R) : Type 0 where
    pub row : IsStep form keeps w e.asked e.answer e.after
    pub called : HasCalls w e.asked e.answer e.calls
    pub time : clock e.after.disk.states ≡ clock w.disk.states + e.calls
    pub still : e.calls ≡ 0 → e.after.disk ≡ w.disk

  abbrev pub AreEvents : World R → List (Event R) → Type 0
  AreEvents w [] = Unit {0}
  AreEvents w (e ∷ events) = IsEvent w e × AreEvents e.after events

-- these answers, with these counts of device calls, to these steps
pub record AreEventsOf {R : Type 0} (steps : List (Step R)) (answers : List (Answer R)) (calls : List ℕ) (events : List (Event R)) : Type 0 where
  pub steps_are : map (λ e. e.asked) events ≡ steps
  pub answers_are : map (λ e. e.answer) events ≡ answers
  pub calls_are : map (λ e. e.calls) events ≡ calls

abbrev pub last : {R : Type 0} → World R → List (Event R) → World R
last w [] = w
last w (e ∷ events) = last e.after events
