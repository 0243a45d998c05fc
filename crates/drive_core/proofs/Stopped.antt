-- A run's counts are the clock's rise; and once a device call has failed, none is made any more.
use Rattle.std.proofs.Common.{◌≡◌, ◌⊎◌, inl, inr, ℕ, ◌+◌, ◌-◌, nat_lt, Bool, true, false, List, [], ◌∷◌, length, map, Option, Some, None, refl, sym, ap, subst, ◌∙◌, arith, is_some}
use Rattle.std.specs.Prelude.{sum}
use Rattle.std.proofs.lemmas.List.Sums.{sum_by-cons}
use Rattle.std.proofs.lemmas.Option.{same_Some}
use Rattle.record_core.specs.Bytes.{Encoding}
use Rattle.disk_core.specs.Moments.{clock}
use Rattle.segment_core.specs.Command.{Command}
use Rattle.segment_core.specs.Command as commands
use Rattle.pen_core.specs.declared.fault.PenFault.TheVariants as pen
use Rattle.drive_core.specs.declared.fault.StepFault.{StepFault}
use Rattle.drive_core.specs.declared.fault.StepFault.TheVariants.{Vault, Grow}
use Rattle.vault_core.specs.declared.fault.VaultFault.TheVariants as vault
use Rattle.book_core.specs.declared.fault.GrowFault.TheVariants as grow
use Rattle.drive_core.specs.Line.{Line, When, Might, Allows, is_vault_memory}
use Rattle.drive_core.specs.Step.{Step, Answer}
use Rattle.drive_core.specs.Step as step
use Rattle.drive_core.specs.World.{World, GrowthPhase, DrivePhase, Shut, Exclusive, Growing, vector, changed, changed_runs, resize_command, cleared, is_live, next_group}
use Rattle.drive_core.specs.ExclusiveRows.{IsCommandStep, IsChanges, share_lines, command_lines}
use Rattle.drive_core.specs.GrowthRows.{take_lines}
use Rattle.drive_core.specs.LaneRows.{fold_lines, device_lines, home_calls, IsLog, IsHome, IsFold}
use Rattle.drive_core.specs.Rows.{IsStep, PhaseRow, StrayRow, ExclusiveRow, GrowthRow, OfSeat, has_seat, IsMisplaced}
use Rattle.drive_core.specs.Run.{Event, AreEvents, last, HasCalls, RefusedCalls, OpenFaultCalls, CommandCalls}
use Rattle.drive_core.specs.Headline.{HasFile}

abbrev broken_fault : StepFault
broken_fault = Vault (vault.Pen pen.Broken)

-- ---- what a table begins with that names a broken pen

first_line : (test : Bool) (lines : List Line) (answer : Option StepFault) → test ≡ true → Allows (When test broken_fault ∷ lines) answer → answer ≡ Some broken_fault
first_line true lines answer is allows = allows
first_line false lines answer is allows = absurd cc

-- the world behind a step that made no call
record Stopped {R : Type 0} (w' : World R) (n : ℕ) : Type 0 where
  none : n ≡ 0
  there : HasFile w'.phase
  broken : w'.hand.broken ≡ true

-- refusals that no device call makes
abbrev IsQuiet : StepFault → Type 0
IsQuiet fault = ((most n : ℕ) → RefusedCalls fault most n → n ≡ 0) × ((n : ℕ) → OpenFaultCalls fault n → n ≡ 0)

module _ {R : Type 0} (w w' : World R) (n : ℕ) (there : HasFile w.phase) (broken : w.hand.broken ≡ true) where
  to : {x : World R} → w' ≡ x → HasFile x.phase → x.hand.broken ≡ w.hand.broken → n ≡ 0 → Stopped w' n
  to {x} is file hand none = subst (λ y. Stopped y n) (sym is) (record { none = none; there = file; broken = hand ∙ broken })

  stays : w' ≡ w → n ≡ 0 → Stopped w' n
  stays is none = to is there refl none

  -- ---- counts of what is refused

  refused_command : (command : Option (Command R)) (fault : StepFault) → IsQuiet fault → CommandCalls command (step.Refused fault) n → n ≡ 0
  refused_command None fault quiet calls = calls
  refused_command (Some command) fault quiet calls = quiet.0 4 n calls

  refused_calls : (asked : Step R) (fault : StepFault) → IsQuiet fault → HasCalls w asked (step.Refused fault) n → n ≡ 0
  refused_calls (step.Create format) fault quiet calls = quiet.0 8 n calls
  refused_calls step.Open fault quiet calls = quiet.1 n calls
  refused_calls (step.Change start records) fault quiet calls = refused_command (changed start records) fault quiet calls
  refused_calls (step.Changes pieces) fault quiet calls = refused_command (changed_runs pieces) fault quiet calls
  refused_calls (step.Resize size r) fault quiet calls = refused_command (resize_command (length (vector w)) size r) fault quiet calls
  refused_calls step.Clear fault quiet calls = refused_command (cleared (length (vector w))) fault quiet calls
  refused_calls step.Log fault quiet calls = quiet.0 1 n calls
  refused_calls step.Home fault quiet calls = quiet.0 1 n calls
  refused_calls other fault quiet calls = calls

  -- the answer is this refusal, and nothing changes
  refuses : (asked : Step R) (answer : Answer R) (fault : StepFault) → IsQuiet fault → answer ≡ step.Refused fault → HasCalls w asked answer n → w' ≡ w → Stopped w' n
  refuses asked answer fault quiet is calls same = stays same (refused_calls asked fault quiet (subst (λ a. HasCalls w asked a n) is calls))

  misplaced : (asked : Step R) (answer : Answer R) → HasCalls w asked answer n → IsMisplaced w answer w' → Stopped w' n
  misplaced asked answer calls row = refuses asked answer (Vault vault.WrongPhase) ((λ most n is. is), (λ n is. is)) row.0 calls row.1

  -- a table that begins with the broken pen: it is refused so
  table : (asked : Step R) (answer : Answer R) (lines : List Line) {Accepted : Type 0} {By : StepFault → Type 0} → HasCalls w asked answer n
      → ((given : Option StepFault) → Allows lines given → given ≡ Some broken_fault) → (By broken_fault → w' ≡ w)
      → (Allows lines None × Accepted) ⊎ ((fault : StepFault) × Allows lines (Some fault) × (answer ≡ step.Refused fault) × By fault) → Stopped w' n
  table asked answer lines {By = By} calls first still row = elim row [
    | inl ok ↦ absurd (let is = first None ok.0 in cc)
    | inr refused ↦
        let is : refused.0 ≡ broken_fault = same_Some refused.0 broken_fault (first (Some refused.0) refused.1) in
        refuses asked answer broken_fault ((λ most n is. is), (λ n is. is)) (refused.2 ∙ ap step.Refused is) calls (still (subst By is refused.3))
  ]

  -- ---- the tables that begin with it

  by_fold : (live : Bool) (given : Option StepFault) → Allows (fold_lines w.hand live) given → given ≡ Some broken_fault
  by_fold true given allows = first_line w.hand.broken _ given broken allows
  by_fold false given allows = first_line w.hand.broken _ given broken allows

  by_device : (calls : Bool) (given : Option StepFault) → Allows (device_lines w.hand calls) given → given ≡ Some broken_fault
  by_device true given allows = first_line w.hand.broken _ given broken allows
  by_device false given allows = first_line w.hand.broken _ given broken allows

  abbrev gather_lines : GrowthPhase → List Line
  gather_lines phase = When w.hand.broken broken_fault ∷ When (nat_lt w.settled (length w.history)) (Vault (vault.Unsettled (w.settled - phase.before))) ∷ Might is_vault_memory ∷ []

  module _ (form : Encoding R) (keeps : Type 0) where
    by_command : (command : Command R) (size : ℕ) (given : Option StepFault) → Allows (command_lines form w.hand size command) given → given ≡ Some broken_fault
    by_command (commands.Grow records) size given allows = first_line w.hand.broken _ given broken allows
    by_command (commands.Shrink n) size given allows = first_line w.hand.broken _ given broken allows
    by_command (commands.Change runs records) size given allows = first_line w.hand.broken _ given broken allows

    command_stops : (asked : Step R) (command : Option (Command R)) (answer : Answer R) → HasCalls w asked answer n → IsCommandStep form w command answer w' → Stopped w' n
    command_stops asked None answer calls row = table asked answer (When w.hand.broken broken_fault ∷ []) calls (λ given allows. first_line w.hand.broken [] given broken allows) (λ same. same) row
    command_stops asked (Some command) answer calls row = table asked answer (command_lines form w.hand (length (vector w)) command) calls (by_command command (length (vector w))) (λ same. same) row

    fold_stops : (asked : Step R) (answer : Answer R) → HasCalls w asked answer n → IsFold keeps w answer w' → Stopped w' n
    fold_stops asked answer calls row = table asked answer (fold_lines w.hand (is_live w.hand.file)) calls (by_fold (is_live w.hand.file)) (λ same. same) row

    log_stops : (asked : Step R) (answer : Answer R) → HasCalls w asked answer n → IsLog w answer w' → Stopped w' n
    log_stops asked answer calls row = table asked answer (device_lines w.hand (is_some w.hand.job)) calls (by_device (is_some w.hand.job)) (λ same. same) row

    home_stops : (asked : Step R) (answer : Answer R) → HasCalls w asked answer n → IsHome w answer w' → Stopped w' n
    home_stops asked answer calls row = table asked answer (device_lines w.hand (home_calls w.hand.fold)) calls (by_device (home_calls w.hand.fold)) (λ same. same) row

    changes_stops : (pieces : List (ℕ × List R)) (answer : Answer R) → HasCalls w (step.Changes pieces) answer n → IsChanges form w pieces answer w' → Stopped w' n
    changes_stops pieces answer calls row = elim row [
      | inl memory ↦ refuses (step.Changes pieces) answer (Vault (vault.Pen pen.Memory)) ((λ most n is. is), (λ n is. is)) memory.1 calls memory.2
      | inr command ↦ command_stops (step.Changes pieces) (changed_runs pieces) answer calls command
    ]

    -- a row without a call, accepted or refused
    seat_stops : (asked : Step R) (answer : Answer R) (known : Bool) {Row : Type 0} → HasCalls w asked answer n → (Row → Stopped w' n) → OfSeat w answer w' known Row → Stopped w' n
    seat_stops asked answer true calls row_stops row = row_stops row
    seat_stops asked answer false calls row_stops row = misplaced asked answer calls row

    exclusive_stops : (asked : Step R) (answer : Answer R) → HasCalls w asked answer n → ExclusiveRow form keeps w asked answer w' → Stopped w' n
    exclusive_stops (step.Share room seats) answer calls row =
        table (step.Share room seats) answer (share_lines w.hand room seats) calls (λ given allows. first_line w.hand.broken _ given broken allows) (λ same. same) row
    exclusive_stops (step.Change start records) answer calls row = command_stops (step.Change start records) (changed start records) answer calls row
    exclusive_stops (step.Changes pieces) answer calls row = changes_stops pieces answer calls row
    exclusive_stops (step.Resize size r) answer calls row = command_stops (step.Resize size r) (resize_command (length (vector w)) size r) answer calls row
    exclusive_stops step.Clear answer calls row = command_stops step.Clear (cleared (length (vector w))) answer calls row
    exclusive_stops step.Listing answer calls row = elim row [ inl ok ↦ stays ok.1.1 calls | inr refused ↦ stays refused.3 calls ]
    exclusive_stops step.Fold answer calls row = fold_stops step.Fold answer calls row
    exclusive_stops step.Log answer calls row = log_stops step.Log answer calls row
    exclusive_stops step.Home answer calls row = home_stops step.Home answer calls row
    exclusive_stops (step.Create format) answer calls row = misplaced (step.Create format) answer calls row
    exclusive_stops step.Open answer calls row = misplaced step.Open answer calls row
    exclusive_stops other answer calls row = stays row.1 calls

    growth_stops : (phase : GrowthPhase) (asked : Step R) (answer : Answer R) → HasCalls w asked answer n → GrowthRow form keeps w phase asked answer w' → Stopped w' n
    growth_stops phase (step.Put seat records) answer calls row = seat_stops (step.Put seat records) answer (has_seat phase (Some seat)) calls
        (λ put. elim put [ inl ok ↦ to ok.1.1 tt refl calls | inr refused ↦ to refused.3.2 tt refl calls ]) row
    growth_stops phase (step.Look pass) answer calls row = seat_stops (step.Look pass) answer (has_seat phase pass) calls
        (λ look. elim look [ inl ok ↦ to ok.1.3 tt refl calls | inr refused ↦ to refused.3 there refl calls ]) row
    growth_stops phase (step.View seat) answer calls row = seat_stops (step.View seat) answer (has_seat phase (Some seat)) calls
        (λ view. elim view [ inl ok ↦ stays ok.1.1 calls | inr refused ↦ stays refused.3 calls ]) row
    growth_stops phase (step.Settled seat) answer calls row = seat_stops (step.Settled seat) answer (has_seat phase (Some seat)) calls
        (λ read. elim read [ inl ok ↦ to ok.1.4 tt refl calls | inr refused ↦ to refused.3 there refl calls ]) row
    growth_stops phase step.Take answer calls row =
        table step.Take answer (take_lines form.width w.hand (next_group form.width w phase)) calls (λ given allows. first_line w.hand.broken _ given broken allows) (λ same. same) row
    growth_stops phase step.Raise answer calls row = to row.1 tt refl calls
    growth_stops phase step.Close answer calls row = to row.1 tt refl calls
    growth_stops phase step.Gather answer calls row = table step.Gather answer (gather_lines phase) calls (λ given allows. first_line w.hand.broken _ given broken allows) (λ same. same) row
    growth_stops phase step.Fold answer calls row = fold_stops step.Fold answer calls row
    growth_stops phase step.Log answer calls row = log_stops step.Log answer calls row
    growth_stops phase step.Home answer calls row = home_stops step.Home answer calls row
    growth_stops phase other answer calls row = misplaced other answer calls row

    phase_stops : (phase : DrivePhase) → HasFile phase → (asked : Step R) (answer : Answer R) → HasCalls w asked answer n → PhaseRow form keeps w phase asked answer w' → Stopped w' n
    phase_stops Shut has asked answer calls row = absurd has
    phase_stops Exclusive has asked answer calls row = exclusive_stops asked answer calls row
    phase_stops (Growing phase) has asked answer calls row = growth_stops phase asked answer calls row

    stray_stops : (stray : Option ℕ) (asked : Step R) (answer : Answer R) → HasCalls w asked answer n → StrayRow form keeps w stray asked answer w' → Stopped w' n
    stray_stops None asked answer calls row = phase_stops w.phase there asked answer calls row
    stray_stops (Some number) asked answer calls row = refuses asked answer (Grow (grow.Strayed number)) ((λ most n is. is), (λ n is. is)) row.0 calls row.1

    step_stops : (asked : Step R) (answer : Answer R) → HasCalls w asked answer n → IsStep form keeps w asked answer w' → Stopped w' n
    step_stops asked answer calls row = stray_stops w.strayed asked answer calls row

module _ {R : Type 0} (form : Encoding R) (keeps : Type 0) where
  -- the counts of a run are the clock's rise
  pub counts_rise : (w : World R) (events : List (Event R)) → AreEvents form keeps w events → clock (last w events).disk.states ≡ clock w.disk.states + sum (map (λ e. e.calls) events)
  counts_rise w [] run = omega arith
  counts_rise w (e ∷ events) run =
      let time = run.0.time in
      let rest = counts_rise e.after events run.1 in
      let more = sum_by-cons (λ x. x) e.calls (map (λ (e : Event R). e.calls) events) in
      omega (arith, time, rest, more)

  -- from a world with a file whose pen is broken no step calls the device, and the pen stays broken
  pub stopped_run : (w : World R) (events : List (Event R)) → HasFile w.phase → w.hand.broken ≡ true → AreEvents form keeps w events
      → (sum (map (λ e. e.calls) events) ≡ 0) × ((last w events).hand.broken ≡ true)
  stopped_run w [] there broken run = (refl, broken)
  stopped_run w (e ∷ events) there broken run =
      let stopped = step_stops w e.after e.calls there broken form keeps e.asked e.answer run.0.called run.0.row in
      let rest = stopped_run e.after events stopped.there stopped.broken run.1 in
      let more = sum_by-cons (λ x. x) e.calls (map (λ (e : Event R). e.calls) events) in
      let none = stopped.none in
      let others = rest.0 in
      (omega (arith, none, others, more), rest.1)
