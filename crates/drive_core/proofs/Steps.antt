-- What the lemma of every step ends with.
use Rattle.std.proofs.Common.{◌≡◌, ℕ, None, sym, ap, subst, arith}
use Rattle.record_core.specs.Bytes.{Encoding}
use Rattle.disk_core.specs.Moments.{clock}
use Rattle.drive_core.specs.Step.{Step, Answer}
use Rattle.drive_core.specs.World.{World, DrivePhase, DiskOf}
use Rattle.drive_core.specs.Outcome.{stray_in}
use Rattle.drive_core.specs.Rows.{PhaseRow, StrayRow, IsStep}
use Rattle.drive_core.specs.Run.{HasCalls}
use Rattle.drive_core.specs.Ties.{Steps}

-- the row of the phase is that of the step
pub at_phase : {R : Type 0} (form : Encoding R) (keeps : Type 0) (w : World R) (phase : DrivePhase) (asked : Step R) (answer : Answer R) (w' : World R)
    → w.strayed ≡ None → w.phase ≡ phase → PhaseRow form keeps w phase asked answer w' → IsStep form keeps w asked answer w'
at_phase form keeps w phase asked answer w' calm is row =
    subst (λ s. StrayRow form keeps w s asked answer w') (sym calm) (subst (λ p. PhaseRow form keeps w p asked answer w') (sym is) row)

module _ {R : Type 0} {form : Encoding R} {keeps : Type 0} {Tied : World R → Type 0} {w : World R} where
  -- the same answer, step or count, by another name
  pub answered : {asked : Step R} {answer same : Answer R} {n : ℕ} → answer ≡ same → Steps form keeps Tied w asked same n → Steps form keeps Tied w asked answer n
  answered {asked} {n = n} is steps = subst (λ a. Steps form keeps Tied w asked a n) (sym is) steps

  pub asked_as : {asked same : Step R} {answer : Answer R} {n : ℕ} → asked ≡ same → Steps form keeps Tied w same answer n → Steps form keeps Tied w asked answer n
  asked_as {answer = answer} {n = n} is steps = subst (λ a. Steps form keeps Tied w a answer n) (sym is) steps

  pub counted : {asked : Step R} {answer : Answer R} {n k : ℕ} → n ≡ k → Steps form keeps Tied w asked answer n → Steps form keeps Tied w asked answer k
  counted {asked} {answer} is steps = subst (λ k. Steps form keeps Tied w asked answer k) is steps

  -- what is tied to the world behind it, by more
  pub tied_to : {Left : World R → Type 0} {asked : Step R} {answer : Answer R} {n : ℕ} → ((w' : World R) → Tied w' → Left w') → Steps form keeps Tied w asked answer n
      → Steps form keeps Left w asked answer n
  tied_to to steps = record {
    after = steps.after;
    is_event = steps.is_event;
    inner = steps.inner;
    few = steps.few;
    stray_is = steps.stray_is;
    tied = to steps.after steps.tied;
  }

  -- where no call is made nothing is left within the step
  pub still : {asked : Step R} {answer : Answer R} (w' : World R) → IsStep form keeps w asked answer w' → HasCalls w asked answer 0 → w'.disk ≡ w.disk → w'.strayed ≡ stray_in answer
      → Tied w'
      → Steps form keeps Tied w asked answer 0
  still w' row calls disk stray tied = record {
    after = w';
    is_event = record { row = row; called = calls; time = (let clocks = ap (λ (d : DiskOf). clock d.states) disk in omega (arith, clocks)); still = λ none. disk };
    inner = λ kept. record { within = λ some has. absurd (omega (arith, some)); behind = λ some has. absurd (omega (arith, some)) };
    few = omega arith;
    stray_is = stray;
    tied = tied;
  }
