-- Each step of a file that is there keeps the base, makes the history longer, settles no less, and raises no mark past that.
use Rattle.std.proofs.Common.{◌≡◌, ◌⊎◌, inl, inr, ℕ, ◌≤◌, Bool, true, false, List, [], ◌∷◌, ◌++◌, ◌+◌, ◌-◌, length, Option, Some, None, refl, sym, subst, ◌∙◌, arith, append-nil}
use Rattle.record_core.specs.Bytes.{Encoding}
use Rattle.segment_core.specs.Command.{Command}
use Rattle.segment_core.specs.Command as commands
use Rattle.disk_core.specs.declared.fault.DiskFault.{DiskFault}
use Rattle.pen_core.specs.PenOf.{JobOf, FoldOf}
use Rattle.pen_core.specs.Step.{step_after}
use Rattle.pen_core.specs.InHand.{has_call}
use Rattle.pen_core.specs.declared.step.PenStep as pen_step
use Rattle.pen_core.specs.declared.fault.PenFault.TheVariants as pen_fault
use Rattle.drive_core.specs.declared.fault.StepFault.{StepFault}
use Rattle.drive_core.specs.declared.fault.StepFault.TheVariants.{Vault, Grow, Scan}
use Rattle.vault_core.specs.declared.fault.VaultFault.TheVariants as vault
use Rattle.drive_core.specs.Step.{Step, Answer}
use Rattle.drive_core.specs.Step as step
use Rattle.drive_core.specs.World.{World, GrowthPhase, DrivePhase, Shut, Exclusive, Growing, vector, next_group, is_live, changed, changed_runs, resize_command, cleared}
use Rattle.drive_core.specs.Outcome.{RefusedAt, elsewhere}
use Rattle.drive_core.specs.GrowthRows.{knowing, with_group}
use Rattle.drive_core.specs.ExclusiveRows.{IsCommandStep, TornAt}
use Rattle.drive_core.specs.LaneRows.{IsLog, IsHome, log_fault_due, home_due, IsFold, IsJobLogged, IsLogged, IsFoldHomed, IsHomed, IsFiled, HasBegun, broken_by}
use Rattle.drive_core.specs.Rows.{IsStep, PhaseRow, StrayRow, ExclusiveRow, GrowthRow, OfSeat, has_seat}
use Rattle.drive_core.specs.Run.{HasCalls, LaneCalls, CommandCalls}
use Rattle.drive_core.specs.Headline.{HasFile}

-- a file is there, and in a growth phase the mark tells of no more growths than are settled
abbrev pub IsMarked : ℕ → DrivePhase → Type 0
IsMarked settled Shut = ⊥
IsMarked settled Exclusive = Unit {0}
IsMarked settled (Growing phase) = phase.mark ≤ settled - phase.before

-- as many settled, or more
IsMarked-more : (settled more : ℕ) (phase : DrivePhase) → settled ≤ more → IsMarked settled phase → IsMarked more phase
IsMarked-more settled more Shut le marked = marked
IsMarked-more settled more Exclusive le marked = tt
IsMarked-more settled more (Growing phase) le marked = omega arith

-- whatever a pass knows
IsMarked-knowing : (settled known : ℕ) (phase : GrowthPhase) (pass : Option ℕ) → IsMarked settled (Growing phase) → IsMarked settled (Growing (knowing phase pass known))
IsMarked-knowing settled known phase None marked = marked
IsMarked-knowing settled known phase (Some seat) marked = marked

pub HasFile-marked : (settled : ℕ) (phase : DrivePhase) → IsMarked settled phase → HasFile phase
HasFile-marked settled Shut marked = marked
HasFile-marked settled Exclusive marked = tt
HasFile-marked settled (Growing phase) marked = tt

pub record Goes {R : Type 0} (w w' : World R) (n : ℕ) : Type 0 where
  pub base_same : w'.base ≡ w.base
  pub added : List (Command R)
  pub history_is : w'.history ≡ w.history ++ added
  pub settled_le : w.settled ≤ w'.settled
  pub marked : IsMarked w'.settled w'.phase
  -- without a device call nothing is settled
  pub quiet : n ≡ 0 → w'.settled ≡ w.settled

module _ {R : Type 0} (w w' : World R) (n : ℕ) (there : IsMarked w.settled w.phase) where
  -- to a world with this base, history and settled count
  to : {x : World R} → w' ≡ x → x.base ≡ w.base → x.history ≡ w.history → x.settled ≡ w.settled → IsMarked x.settled x.phase → Goes w w' n
  to is base history settled file = subst (λ y. Goes w y n) (sym is) (record {
    base_same = base;
    added = [];
    history_is = history ∙ sym (append-nil w.history);
    settled_le = omega (arith, settled);
    marked = file;
    quiet = λ none. settled;
  })

  pub stays : w' ≡ w → Goes w w' n
  stays is = to is refl refl refl there

  -- one command more
  longer : {x : World R} → w' ≡ x → (command : Command R) → x.base ≡ w.base → x.history ≡ w.history ++ command ∷ [] → w.settled ≤ x.settled → IsMarked x.settled x.phase
      → (n ≡ 0 → x.settled ≡ w.settled) → Goes w w' n
  longer is command base history settled file quiet = subst (λ y. Goes w y n) (sym is)
      (record { base_same = base; added = command ∷ []; history_is = history; settled_le = settled; marked = file; quiet = quiet })

  -- and none, but more of them settled
  settles : {x : World R} → w' ≡ x → x.base ≡ w.base → x.history ≡ w.history → w.settled ≤ x.settled → IsMarked x.settled x.phase → (n ≡ 0 → x.settled ≡ w.settled) → Goes w w' n
  settles is base history settled file quiet = subst (λ y. Goes w y n) (sym is)
      (record { base_same = base; added = []; history_is = history ∙ sym (append-nil w.history); settled_le = settled; marked = file; quiet = quiet })

  by_outcome : {Fits Accepted : Type 0} {May By : StepFault → Type 0} {answer : Answer R} → (Fits × Accepted) ⊎ ((fault : StepFault) × May fault × (answer ≡ step.Refused fault) × By fault)
      → (Accepted → Goes w w' n) → ((fault : StepFault) → By fault → Goes w w' n) → Goes w w' n
  by_outcome outcome ok not_ok = elim outcome [ inl accepted ↦ ok accepted.1 | inr refused ↦ not_ok refused.0 refused.3 ]

  refused_at : (due : Option DiskFault) (failed : World R) (fault : StepFault) → (w' ≡ elsewhere failed w' → Goes w w' n) → RefusedAt w due failed w' fault → Goes w w' n
  refused_at due failed (Vault (vault.Pen (pen_fault.Disk fault))) goes by = goes by.2
  refused_at due failed (Vault other) goes by = stays by
  refused_at due failed (Grow fault) goes by = stays by
  refused_at due failed (Scan fault) goes by = stays by

  module _ (form : Encoding R) where
    group_goes : (phase : GrowthPhase) → phase.mark ≤ w.settled - phase.before → (growths : List (List R)) → w' ≡ with_group form w phase growths → Goes w w' n
    group_goes phase marked [] is = stays is
    group_goes phase marked (growth ∷ growths) is = to is refl refl refl marked

    torn_goes : (command : Command R) (fault : StepFault) → TornAt form w command w' fault → Goes w w' n
    torn_goes command (Vault (vault.Pen (pen_fault.Disk fault))) by = longer by.1.2 command refl refl (omega arith) there (λ none. refl)
    torn_goes command (Vault other) by = stays by
    torn_goes command (Grow fault) by = stays by
    torn_goes command (Scan fault) by = stays by

    command_goes : (command : Option (Command R)) (answer : Answer R) → CommandCalls command answer n → IsCommandStep form w command answer w' → Goes w w' n
    command_goes None answer calls row = by_outcome row (λ ok. stays ok.1) (λ fault by. stays by)
    command_goes (Some command) answer calls row = by_outcome row
        (λ ok. let four : n ≡ 4 = subst (λ a. CommandCalls (Some command) a n) ok.0 calls in
        longer ok.1 command refl refl (omega arith) (IsMarked-more w.settled (w.settled + 1) w.phase (omega arith) there) (λ none. absurd (omega (arith, four, none))))
        (torn_goes command)

    fold_goes : (keeps : Type 0) (live : Bool) → HasBegun keeps w live w' → Goes w w' n
    fold_goes keeps true begun = to begun.3 refl refl refl there
    fold_goes keeps false begun = stays begun

    logged_goes : (job : JobOf) (next : Option pen_step.PenStep) (answer : Answer R) → LaneCalls answer n → IsLogged w job next answer w' → Goes w w' n
    logged_goes job None answer calls row =
        let one : n ≡ 1 = subst (λ a. LaneCalls a n) row.0 calls in
        settles row.1 refl refl (omega arith) (IsMarked-more w.settled _ w.phase (omega arith) there) (λ none. absurd (omega (arith, one, none)))
    logged_goes job (Some next) answer calls row = to row.1 refl refl refl there

    job_goes : (job : Option JobOf) (answer : Answer R) → LaneCalls answer n → IsJobLogged w job answer w' → Goes w w' n
    job_goes None answer calls row = stays row.1
    job_goes (Some job) answer calls row = logged_goes job (step_after job.step) answer calls row

    lane_refused : (due : Option DiskFault) (fault : StepFault) → RefusedAt w due (broken_by w) w' fault → Goes w w' n
    lane_refused due fault by = refused_at due (broken_by w) fault (λ is. to is refl refl refl there) by

    log_goes : (answer : Answer R) → LaneCalls answer n → IsLog w answer w' → Goes w w' n
    log_goes answer calls row = by_outcome row (job_goes w.hand.job answer calls) (lane_refused (log_fault_due w.hand))

    filed_goes : (fold : FoldOf) (job : Option JobOf) (answer : Answer R) → IsFiled w fold job answer w' → Goes w w' n
    filed_goes fold None answer row = to row.1 refl refl refl there
    filed_goes fold (Some job) answer row = stays row.1

    homed_goes : (fold : FoldOf) (calls : Bool) (answer : Answer R) → IsHomed w fold calls answer w' → Goes w w' n
    homed_goes fold true answer row = to row.1 refl refl refl there
    homed_goes fold false answer row = filed_goes fold w.hand.job answer row

    fold_home_goes : (fold : Option FoldOf) (answer : Answer R) → IsFoldHomed w fold answer w' → Goes w w' n
    fold_home_goes None answer row = stays row.1
    fold_home_goes (Some fold) answer row = homed_goes fold (has_call fold.stage) answer row

    home_goes : (answer : Answer R) → IsHome w answer w' → Goes w w' n
    home_goes answer row = by_outcome row (fold_home_goes w.hand.fold answer) (lane_refused (home_due w.hand))

    seat_goes : {Row : Type 0} (answer : Answer R) (known : Bool) → OfSeat w answer w' known Row → (Row → Goes w w' n) → Goes w w' n
    seat_goes answer true row goes = goes row
    seat_goes answer false row goes = stays row.1

    fold_row : (keeps : Type 0) (answer : Answer R) → IsFold keeps w answer w' → Goes w w' n
    fold_row keeps answer row = by_outcome row (λ ok. fold_goes keeps (is_live w.hand.file) ok.1) (λ fault by. stays by)

    exclusive_goes : (keeps : Type 0) (asked : Step R) (answer : Answer R) → HasCalls w asked answer n → ExclusiveRow form keeps w asked answer w' → Goes w w' n
    exclusive_goes keeps (step.Share room seats) answer calls row = by_outcome row (λ ok. to ok.1 refl refl refl (omega arith)) (λ fault by. stays by)
    exclusive_goes keeps (step.Change start records) answer calls row = command_goes (changed start records) answer calls row
    exclusive_goes keeps (step.Changes pieces) answer calls row = elim row [ inl memory ↦ stays memory.2 | inr command ↦ command_goes (changed_runs pieces) answer calls command ]
    exclusive_goes keeps (step.Resize size r) answer calls row = command_goes (resize_command (length (vector w)) size r) answer calls row
    exclusive_goes keeps step.Clear answer calls row = command_goes (cleared (length (vector w))) answer calls row
    exclusive_goes keeps step.Listing answer calls row = by_outcome row (λ ok. stays ok.1) (λ fault by. stays by)
    exclusive_goes keeps step.Fold answer calls row = fold_row keeps answer row
    exclusive_goes keeps step.Log answer calls row = log_goes answer calls row
    exclusive_goes keeps step.Home answer calls row = home_goes answer row
    exclusive_goes keeps (step.Create format) answer calls row = stays row.1
    exclusive_goes keeps step.Open answer calls row = stays row.1
    exclusive_goes keeps (step.Put seat records) answer calls row = stays row.1
    exclusive_goes keeps (step.Look pass) answer calls row = stays row.1
    exclusive_goes keeps (step.View seat) answer calls row = stays row.1
    exclusive_goes keeps (step.Settled seat) answer calls row = stays row.1
    exclusive_goes keeps step.Take answer calls row = stays row.1
    exclusive_goes keeps step.Raise answer calls row = stays row.1
    exclusive_goes keeps step.Close answer calls row = stays row.1
    exclusive_goes keeps step.Gather answer calls row = stays row.1

    growth_goes : (keeps : Type 0) (phase : GrowthPhase) → phase.mark ≤ w.settled - phase.before → (asked : Step R) (answer : Answer R) → HasCalls w asked answer n → GrowthRow form keeps w phase asked answer w' → Goes w w' n
    growth_goes keeps phase marked (step.Put seat records) answer calls row = seat_goes answer (has_seat phase (Some seat)) row
        (λ put. by_outcome put (λ ok. longer ok.1 (commands.Grow records) refl refl (omega arith) marked (λ none. refl)) (λ fault by. to by.2 refl refl refl marked))
    growth_goes keeps phase marked (step.Look pass) answer calls row = seat_goes answer (has_seat phase pass) row
        (λ look. by_outcome look (λ ok. to ok.3 refl refl refl (IsMarked-knowing w.settled ok.0 phase pass marked)) (λ fault by. to by refl refl refl there))
    growth_goes keeps phase marked (step.View seat) answer calls row = seat_goes answer (has_seat phase (Some seat)) row
        (λ view. by_outcome view (λ ok. stays ok.1) (λ fault by. stays by))
    growth_goes keeps phase marked (step.Settled seat) answer calls row = seat_goes answer (has_seat phase (Some seat)) row
        (λ read. by_outcome read (λ ok. to ok.4 refl refl refl marked) (λ fault by. to by refl refl refl there))
    growth_goes keeps phase marked step.Take answer calls row = by_outcome row (λ ok. group_goes phase marked (next_group form.width w phase) ok.1) (λ fault by. stays by)
    growth_goes keeps phase marked step.Raise answer calls row = to row.1 refl refl refl (omega arith)
    growth_goes keeps phase marked step.Close answer calls row = to row.1 refl refl refl marked
    growth_goes keeps phase marked step.Gather answer calls row = by_outcome row (λ ok. to ok.1 refl refl refl tt) (λ fault by. stays by)
    growth_goes keeps phase marked step.Fold answer calls row = fold_row keeps answer row
    growth_goes keeps phase marked step.Log answer calls row = log_goes answer calls row
    growth_goes keeps phase marked step.Home answer calls row = home_goes answer row
    growth_goes keeps phase marked (step.Create format) answer calls row = stays row.1
    growth_goes keeps phase marked step.Open answer calls row = stays row.1
    growth_goes keeps phase marked (step.Share room seats) answer calls row = stays row.1
    growth_goes keeps phase marked (step.Change start records) answer calls row = stays row.1
    growth_goes keeps phase marked (step.Changes pieces) answer calls row = stays row.1
    growth_goes keeps phase marked (step.Resize size r) answer calls row = stays row.1
    growth_goes keeps phase marked step.Clear answer calls row = stays row.1
    growth_goes keeps phase marked step.Listing answer calls row = stays row.1

    phase_goes : (keeps : Type 0) (phase : DrivePhase) → IsMarked w.settled phase → (asked : Step R) (answer : Answer R) → HasCalls w asked answer n → PhaseRow form keeps w phase asked answer w'
        → Goes w w' n
    phase_goes keeps Shut has asked answer calls row = absurd has
    phase_goes keeps Exclusive has asked answer calls row = exclusive_goes keeps asked answer calls row
    phase_goes keeps (Growing phase) has asked answer calls row = growth_goes keeps phase has asked answer calls row

    stray_goes : (keeps : Type 0) (stray : Option ℕ) (asked : Step R) (answer : Answer R) → HasCalls w asked answer n → StrayRow form keeps w stray asked answer w' → Goes w w' n
    stray_goes keeps None asked answer calls row = phase_goes keeps w.phase there asked answer calls row
    stray_goes keeps (Some number) asked answer calls row = stays row.1

    pub step_goes : (keeps : Type 0) (asked : Step R) (answer : Answer R) → HasCalls w asked answer n → IsStep form keeps w asked answer w' → Goes w w' n
    step_goes keeps asked answer calls row = stray_goes keeps w.strayed asked answer calls row
