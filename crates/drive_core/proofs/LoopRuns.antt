-- The loop over steps.
use Rattle.std.proofs.Common.{◌≤◌, ◌≡◌, ℕ, ◌+◌, List, [], ◌∷◌, ◌++◌, map, length, take, slice_get, ◌-◌, Option, Some, None, refl, sym, ap, subst, ◌∙◌, arith}
use Rattle.record_core.specs.Bytes.{Encoding}
use Rattle.disk_core.specs.Moments.{clock}
use Rattle.book_core.specs.declared.fault.GrowFault.TheVariants as grow
use Rattle.drive_core.specs.declared.fault.StepFault.TheVariants.{Grow}
use Rattle.drive_core.specs.declared.step.Step as code
use Rattle.drive_core.specs.declared.step.Answer as told
use Rattle.drive_core.specs.Asked.{step_of, answer_of}
use Rattle.segment_core.proofs.Written.{take_more}
use Rattle.std.proofs.lemmas.List.{take_all}
use Rattle.drive_core.specs.Medium.{Medium}
use Rattle.drive_core.specs.Step.{Step, Answer}
use Rattle.drive_core.specs.Step as step
use Rattle.drive_core.specs.World.{World, DiskOf}
use Rattle.drive_core.specs.Outcome.{stray_in}
use Rattle.drive_core.specs.Rows.{StrayRow}
use Rattle.drive_core.specs.Run.{Event, HasCalls, last}
use Rattle.segment_core.specs.Command.{Command}
use Rattle.drive_core.specs.declared.phase.DrivePhase as phases
use Rattle.drive_core.specs.World.{vector, changed, changed_runs, resize_command, cleared}
use Rattle.drive_core.specs.Run.{CommandCalls}
use Rattle.drive_core.specs.Driving.{IsDriver, DriverStep, HasRun}
use Rattle.drive_core.specs.Phases.{disk_in, IsPhaseInHand, PhaseStep}
use Rattle.drive_core.specs.Ties.{Steps}
use Rattle.drive_core.specs.VaultTies.{calls_between}
use Rattle.drive_core.proofs.Steps.{answered, counted, still}
use Rattle.drive_core.proofs.Loop.{last-more, AreEvents-more, AreEvents-weaker, AllInner-more}

stray_command : {R : Type 0} (command : Option (Command R)) (number : ℕ) → CommandCalls command (step.Refused (Grow (grow.Strayed number))) 0
stray_command None number = refl
stray_command (Some command) number = refl

stray_calls : {R : Type 0} (w : World R) (asked : Step R) (number : ℕ) → HasCalls w asked (step.Refused (Grow (grow.Strayed number))) 0
stray_calls w (step.Create format) number = refl
stray_calls w step.Open number = refl
stray_calls w (step.Change start records) number = stray_command (changed start records) number
stray_calls w (step.Changes pieces) number = stray_command (changed_runs pieces) number
stray_calls w (step.Resize n r) number = stray_command (resize_command (length (vector w)) n r) number
stray_calls w step.Clear number = stray_command (cleared (length (vector w))) number
stray_calls w step.Log number = refl
stray_calls w step.Home number = refl
stray_calls w other number = refl

module _ {R D : Type 0} {m : Medium R D} {w : World R} where
  -- a step behind one that strayed
  pub stray_steps : {phase : phases.DrivePhase R D} {strayed : Option ℕ} {number : ℕ} {answer : Answer R} (asked : Step R) → IsDriver m w phase strayed → strayed ≡ Some number
      → answer ≡ step.Refused (Grow (grow.Strayed number))
      → DriverStep m w (disk_in phase) phase strayed asked answer
  stray_steps {phase} {number = number} asked tie some is =
      let none : 0 ≡ calls_between (m.states (disk_in phase)) (m.states (disk_in phase)) = omega arith in
      let row = subst (λ s. StrayRow m.form (m.keeps (disk_in phase)) w s asked (step.Refused (Grow (grow.Strayed number))) w) (sym (tie.strayed_is ∙ some)) (refl, refl) in
      answered is (counted none (still w row (stray_calls w asked number) refl (tie.strayed_is ∙ some) tie))

  -- as the driver's step answers
  pub driver_steps : {phase new : phases.DrivePhase R D} {asked : Step R} {answer : Answer R} {strayed strayed' : Option ℕ} → IsDriver m w phase strayed → strayed ≡ None
      → strayed' ≡ stray_in answer
      → (IsPhaseInHand m w phase → PhaseStep m w (disk_in phase) new asked answer) → DriverStep m w (disk_in phase) new strayed' asked answer
  driver_steps tie none told steps =
      let s = steps (tie.goes_on none) in
      record {
        after = s.after;
        is_event = s.is_event;
        inner = s.inner;
        few = s.few;
        stray_is = s.stray_is;
        tied = record { strayed_is = s.stray_is ∙ sym told; disk_is = s.tied.disk_is; goes_on = λ calm. s.tied.goes_on (s.stray_is ∙ sym told ∙ calm) };
      }

  -- the clock goes on by the calls of a step
  pub clock_goes : {phase new : phases.DrivePhase R D} {strayed strayed' : Option ℕ} {asked : Step R} {answer : Answer R} → IsDriver m w phase strayed
      → (s : DriverStep m w (disk_in phase) new strayed' asked answer)
      → clock (m.states (disk_in new)) ≡ clock (m.states (disk_in phase)) + calls_between (m.states (disk_in phase)) (m.states (disk_in new))
  clock_goes tie s =
      let before = ap (λ (d : DiskOf). clock d.states) tie.disk_is in
      let after = ap (λ (d : DiskOf). clock d.states) s.tied.disk_is in
      let time = s.is_event.time in
      omega (arith, before, after, time)

-- ---- one step more

map-snoc : {A B : Type 0} (f : A → B) (xs : List A) (x : A) → map f (xs ++ x ∷ []) ≡ map f xs ++ f x ∷ []
map-snoc f [] x = refl
map-snoc f (y ∷ xs) x = ap (λ rest. f y ∷ rest) (map-snoc f xs x)

module _ {R : Type 0} (form : Encoding R) where
  pub run_more : (keeps keeps' : Type 0) → (keeps' → keeps)
      → (Tied Tied' : World R → Type 0) (w : World R) (steps : List (Step R)) (answers : List (Answer R)) (calls : List ℕ) (asked : Step R) (answer : Answer R) (n count : ℕ)
      → HasRun form keeps Tied w steps answers calls → ((w₁ : World R) → Tied w₁ → Steps form keeps' Tied' w₁ asked answer n) → ((w₁ : World R) → Tied w₁ → count ≡ n)
      → HasRun form keeps' Tied' w (steps ++ asked ∷ []) (answers ++ answer ∷ []) (calls ++ count ∷ [])
  run_more keeps keeps' back Tied Tied' w steps answers calls asked answer n count so_far goes counted =
      let end : World R = last w so_far.events in
      let s = goes end so_far.tied in
      let e : Event R = record { asked = asked; answer = answer; calls = n; after = s.after } in
      record {
        events = so_far.events ++ e ∷ [];
        are_of = record {
          steps_are = map-snoc (λ (e : Event R). e.asked) so_far.events e ∙ ap (λ xs. xs ++ asked ∷ []) so_far.are_of.steps_are;
          answers_are = map-snoc (λ (e : Event R). e.answer) so_far.events e ∙ ap (λ xs. xs ++ answer ∷ []) so_far.are_of.answers_are;
          calls_are = map-snoc (λ (e : Event R). e.calls) so_far.events e ∙ ap (λ xs. xs ++ n ∷ []) so_far.are_of.calls_are ∙ ap (λ k. calls ++ k ∷ []) (sym (counted end so_far.tied));
        };
        run = AreEvents-more form keeps' w so_far.events e (AreEvents-weaker form keeps keeps' back w so_far.events so_far.run) s.is_event;
        inner = λ kept. AllInner-more form w so_far.events e (so_far.inner (back kept)) (s.inner kept);
        tied = subst Tied' (sym (last-more form w so_far.events e)) s.tied;
      }

  pub run_none : (keeps : Type 0) (Tied : World R → Type 0) (w : World R) → Tied w → HasRun form keeps Tied w [] [] []
  run_none keeps Tied w tied = record { events = []; are_of = record { steps_are = refl; answers_are = refl; calls_are = refl }; run = tt; inner = λ kept. tt; tied = tied }

  pub run_pushed : (keeps : Type 0) (Tied : World R → Type 0) (w : World R) (steps steps' : List (Step R)) (answers answers' : List (Answer R)) (calls calls' : List ℕ) → steps' ≡ steps
      → answers' ≡ answers → calls' ≡ calls → HasRun form keeps Tied w steps answers calls → HasRun form keeps Tied w steps' answers' calls'
  run_pushed keeps Tied w steps steps' answers answers' calls calls' p q r has =
      subst (λ xs. HasRun form keeps Tied w xs answers' calls') (sym p)
      (subst (λ xs. HasRun form keeps Tied w steps xs calls') (sym q)
      (subst (λ xs. HasRun form keeps Tied w steps answers xs) (sym r) has))

pub asked_more : {R : Type 0} (asks : List (code.Step R)) (k : ℕ) (asked : code.Step R) → slice_get asks k ≡ Some asked
    → map step_of (take (k + 1) asks) ≡ map step_of (take k asks) ++ step_of asked ∷ []
asked_more asks k asked is = ap (map step_of) (take_more asks k asked is) ∙ map-snoc step_of (take k asks) asked

pub told_more : {R : Type 0} (answers answers' : List (told.Answer R)) (answer : told.Answer R) → answers' ≡ answers ++ answer ∷ []
    → map answer_of answers' ≡ map answer_of answers ++ answer_of answer ∷ []
told_more answers answers' answer is = ap (map answer_of) is ∙ map-snoc answer_of answers answer

-- the difference of two readings of a counter
pub later : (moment before after n : ℕ) → moment ≤ before → after ≡ before + n → after - moment ≡ before - moment + n
later moment before after n le is = omega (arith, le, is)

pub all_asked : {R : Type 0} (asks : List (code.Step R)) (k : ℕ) → length asks ≤ k → map step_of (take k asks) ≡ map step_of asks
all_asked asks k le = ap (map step_of) (take_all k asks le)
