-- Steps of a growth phase: by their number of calls, and those that fit no phase or name no seat.
use Rattle.std.proofs.Common.{◌≡◌, ℕ, ◌≤◌, Bool, true, false, nat_lt, length, Option, Some, None, refl, sym, ap, ◌∙◌, arith}
use Rattle.std.proofs.lemmas.List.{length-map}
use Rattle.disk_core.specs.Moments.{clock}
use Rattle.segment_core.specs.Command.{Command}
use Rattle.vault_core.specs.declared.fault.VaultFault.TheVariants as vault
use Rattle.drive_core.specs.declared.fault.StepFault.TheVariants.{Vault}
use Rattle.drive_core.specs.declared.step.Step as code
use Rattle.drive_core.specs.Asked.{step_of}
use Rattle.drive_core.specs.Medium.{Medium}
use Rattle.drive_core.specs.Step.{Step, Answer}
use Rattle.drive_core.specs.Step as step
use Rattle.drive_core.specs.World.{World, GrowthPhase, DiskOf, vector, changed, changed_runs, resize_command, cleared}
use Rattle.drive_core.specs.Rows.{GrowthRow, OfSeat, has_seat}
use Rattle.drive_core.specs.Run.{HasCalls, CommandCalls}
use Rattle.drive_core.specs.Ties.{GrowingOf, IsGrowing}
use Rattle.drive_core.specs.GrowthTies.{GrowthStep}
use Rattle.drive_core.specs.VaultTies.{calls_between}
use Rattle.drive_core.proofs.PenFolds.{not_lt}
use Rattle.drive_core.proofs.Quiet.{quiet_steps}
use Rattle.drive_core.proofs.Seated.{knows}
use Rattle.drive_core.proofs.Steps.{answered, asked_as, counted}
use Rattle.drive_core.proofs.Ties.{behind_of}

abbrev pub wrong : {R : Type 0} → Answer R
wrong = step.Refused (Vault vault.WrongPhase)

no_command : {R : Type 0} (command : Option (Command R)) → CommandCalls command (wrong {R = R}) 0
no_command None = refl
no_command (Some command) = refl

-- a step that doesn't fit calls no device
pub misplaced_calls : {R : Type 0} (w : World R) (asked : Step R) → HasCalls w asked wrong 0
misplaced_calls w (step.Create format) = refl
misplaced_calls w step.Open = refl
misplaced_calls w (step.Change start records) = no_command (changed start records)
misplaced_calls w (step.Changes pieces) = no_command (changed_runs pieces)
misplaced_calls w (step.Resize n r) = no_command (resize_command (length (vector w)) n r)
misplaced_calls w step.Clear = no_command (cleared (length (vector w)))
misplaced_calls w step.Log = refl
misplaced_calls w step.Home = refl
misplaced_calls w other = refl

module _ {R D : Type 0} {m : Medium R D} {w : World R} {phase : GrowthPhase} {g : GrowingOf R D} (tie : IsGrowing m w phase g) where
  -- with as many calls as the clock tells
  abbrev ByClock : GrowingOf R D → Step R → Answer R → Type 0
  ByClock g' asked answer = GrowthStep m w g' asked answer (calls_between (m.states g.flusher.pen.disk) (m.states g'.flusher.pen.disk))

  pub by_clock : {g' : GrowingOf R D} {asked : Step R} {answer : Answer R} {n : ℕ} → GrowthStep m w g' asked answer n → ByClock g' asked answer
  by_clock {g'} {n = n} steps =
      let before = ap (λ (d : DiskOf). clock d.states) tie.disk_is in
      let behind = ap (λ (d : DiskOf). clock d.states) steps.tied.disk_is in
      let time = steps.is_event.time in
      let is : n ≡ calls_between (m.states g.flusher.pen.disk) (m.states g'.flusher.pen.disk) = omega (arith, before, behind, time) in
      counted is steps

  -- of a seat by its number, and of a step by another name
  pub seat_steps : {g' : GrowingOf R D} {answer : Answer R} (asks : ℕ → Step R) {seat number : ℕ} → seat ≡ number → GrowthStep m w g' (asks seat) answer 0
      → ByClock g' (asks number) answer
  seat_steps asks is steps = by_clock (asked_as (sym (ap asks is)) steps)

  pub asked_steps : {g' : GrowingOf R D} {answer : Answer R} {n : ℕ} {asked same : code.Step R} → asked ≡ same → GrowthStep m w g' (step_of same) answer n → ByClock g' (step_of asked) answer
  asked_steps is steps = by_clock (asked_as (ap step_of is) steps)

  -- ---- a seat that wasn't shared, and a step that doesn't fit

  pub misplaced_steps : (asked : Step R) {answer : Answer R} → answer ≡ wrong → GrowthRow m.form (m.keeps g.flusher.pen.disk) w phase asked wrong w → ByClock g asked answer
  misplaced_steps asked is row = answered is (by_clock (quiet_steps tie w row (misplaced_calls w asked) refl tie.calm (behind_of tie)))

  no_seat : (number : ℕ) → length g.seats ≤ number → has_seat phase (Some number) ≡ false
  no_seat number past = ap (λ n. nat_lt number n) (ap length tie.seats.known_are ∙ length-map g.seats knows) ∙ not_lt number (length g.seats) past

  pub of_none : {number : ℕ} (Row : Type 0) → length g.seats ≤ number → OfSeat w wrong w (has_seat phase (Some number)) Row
  of_none {number} Row past = at (has_seat phase (Some number)) (no_seat number past)
    where
      at : (b : Bool) → b ≡ false → OfSeat w (wrong {R = R}) w b Row
      at true is = absurd cc
      at false is = (refl, refl)
