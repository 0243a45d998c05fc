-- Steps of the growth phase that call no device; what the mark is raised to, and the close.
use Rattle.std.proofs.Common.{◌≡◌, ℕ, ◌-◌, ◌<◌, Bool, true, false, [], ◌∷◌, length, Option, Some, None, refl, sym, ap, subst, ◌∙◌, arith, is_some, nat_lt, lt-ltb}
use Rattle.std.proofs.lemmas.List.{length-map}
use Rattle.pen_core.specs.PenOf.{PenOf, JobOf}
use Rattle.pen_core.specs.Refusals.{first_refusal, ready_lines}
use Rattle.pen_core.specs.declared.fault.PenFault.TheVariants as pen
use Rattle.book_core.specs.Marks.{MarkEnd}
use Rattle.flush_core.specs.Flusher.{FlusherOf}
use Rattle.drive_core.specs.Medium.{Medium}
use Rattle.drive_core.specs.Step.{Step, Answer}
use Rattle.drive_core.specs.Step as step
use Rattle.drive_core.specs.World.{World, GrowthPhase, Growing}
use Rattle.drive_core.specs.Outcome.{stray_in}
use Rattle.drive_core.specs.GrowthRows.{within}
use Rattle.drive_core.specs.Rows.{GrowthRow, OfSeat, has_seat}
use Rattle.drive_core.specs.Run.{HasCalls}
use Rattle.drive_core.specs.Ties.{GrowingOf, IsGrowing, IsBehindStep}
use Rattle.drive_core.specs.GrowthTies.{GrowthStep}
use Rattle.drive_core.proofs.Seated.{knows}
use Rattle.drive_core.proofs.Steps.{at_phase, answered, still}
use Rattle.drive_core.proofs.Ties.{other_flusher, other_mark, flushes_on, behind_of}

-- where a log job may be begun none is in hand
pub idle_job : {D : Type 0} (p : PenOf D) → first_refusal (ready_lines p) ≡ None → p.job ≡ None
idle_job p is = at p.broken p.job is
  where
    at : (b : Bool) (j : Option JobOf) → first_refusal ((b, pen.Broken) ∷ (is_some j, pen.Busy) ∷ []) ≡ None → j ≡ None
    at true j is = absurd cc
    at false None is = refl
    at false (Some job) is = absurd cc

-- what is in hand by another name
pub same_hand : {R D : Type 0} {m : Medium R D} {w : World R} {asked : Step R} {answer : Answer R} {g' h : GrowingOf R D} → g' ≡ h → GrowthStep m w h asked answer 0
    → GrowthStep m w g' asked answer 0
same_hand {m = m} {w = w} {asked = asked} {answer = answer} is = subst (λ x. GrowthStep m w x asked answer 0) (sym is)

of_seat : {R : Type 0} (w w' : World R) (answer : Answer R) (b : Bool) (Row : Type 0) → b ≡ true → Row → OfSeat w answer w' b Row
of_seat w w' answer true Row is row = row
of_seat w w' answer false Row is row = absurd cc

module _ {R D : Type 0} {m : Medium R D} {w : World R} {phase : GrowthPhase} {g : GrowingOf R D} (tie : IsGrowing m w phase g) where
  pub quiet_steps : {g' : GrowingOf R D} {asked : Step R} {answer : Answer R} (w' : World R) → GrowthRow m.form (m.keeps g'.flusher.pen.disk) w phase asked answer w' → HasCalls w asked answer 0
      → w'.disk ≡ w.disk → w'.strayed ≡ stray_in answer → IsBehindStep m w' g' → GrowthStep m w g' asked answer 0
  quiet_steps {g'} {asked} {answer} w' row calls same stray tied =
      still w' (at_phase m.form (m.keeps g'.flusher.pen.disk) w (Growing phase) asked answer w' tie.calm tie.phase_is row) calls same stray tied

  -- the row of a seat that there is
  pub seat_row : {k : ℕ} → k < length g.seats → (w' : World R) (answer : Answer R) (Row : Type 0) → Row → OfSeat w answer w' (has_seat phase (Some k)) Row
  seat_row {k} inside w' answer Row =
      of_seat w w' answer (has_seat phase (Some k)) Row (ap (λ n. nat_lt k n) (ap length tie.seats.known_are ∙ length-map g.seats knows) ∙ lt-ltb k (length g.seats) inside)

  -- ---- the mark

  -- nothing of the flusher but its end of the mark
  abbrev pub told_flusher : MarkEnd → FlusherOf R D
  told_flusher mark = record g.flusher { mark = mark }

  abbrev raised : GrowthPhase
  raised = record phase { mark = w.settled - phase.before }

  raise_tie : (mark : MarkEnd) → IsGrowing m (within w raised) raised (record g { flusher = told_flusher mark; mark = w.settled - phase.before; closed = phase.closed })
  raise_tie mark = other_flusher (other_mark tie (w.settled - phase.before) phase.closed) (Growing raised) phase.flusher phase.taken w.settled w.hand w.disk (told_flusher mark) refl
      (flushes_on tie refl refl tie.flusher.job_brings tie.flusher.settled_is) tie.hand_is tie.disk_is

  pub raise_steps : {answer : Answer R} (mark : MarkEnd) (new : FlusherOf R D) (count : ℕ) → new ≡ told_flusher mark → count ≡ g.flusher.settled → answer ≡ step.Raised count
      → GrowthStep m w (record g { flusher = new; mark = count }) step.Raise answer 0
  raise_steps mark new count is counted told =
      let settled : count ≡ w.settled - phase.before = (let settled = tie.flusher.settled_is in omega (arith, settled, counted)) in
      same_hand (λ i. record g { flusher = is i; mark = settled i; closed = tie.closed_is i })
      (answered told (quiet_steps (within w raised) (ap step.Raised settled, refl) refl refl tie.calm (behind_of (raise_tie mark))))

  -- ---- the close

  abbrev closed : GrowthPhase
  closed = record phase { closed = true }

  pub close_steps : {answer : Answer R} → answer ≡ step.Fine → GrowthStep m w (record g { closed = true }) step.Close answer 0
  close_steps is =
      same_hand (λ i. record g { closed = true; mark = tie.mark_is i })
      (answered is (quiet_steps (within w closed) (refl, refl) refl refl tie.calm (behind_of (other_mark tie phase.mark true))))
