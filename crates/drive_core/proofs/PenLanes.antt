-- The two lanes of device calls, from what a pen's ticks promise.
use Rattle.std.proofs.Common.{if◌then◌else◌, ◌≡◌, inl, inr, ℕ, ◌+◌, ◌≤◌, ◌<◌, Bool, true, false, [], ◌∷◌, Option, Some, None, refl, sym, ap, subst, ◌∙◌, arith, is_some}
use Rattle.std.specs.Option.{option_map}
use Rattle.disk_core.specs.declared.fault.DiskFault.{DiskFault}
use Rattle.segment_core.specs.Frame.{Fold}
use Rattle.pen_core.specs.PenOf.{PenOf, JobOf, FoldOf}
use Rattle.pen_core.specs.Pen.{IsTicked, CountsSame, CountsDone, IsTickFault, IsBrokenBy, calls_due, IsHomeTicked, HomesCalled, IsHomeFault, home_calls_due}
use Rattle.pen_core.specs.Pen as pens
use Rattle.pen_core.specs.InHand.{has_call, called, home_fault}
use Rattle.pen_core.specs.declared.step.PenStep.TheVariants.{Body}
use Rattle.pen_core.specs.declared.stage.FoldStage.TheVariants as stages
use Rattle.pen_core.specs.Step.{step_after, fault_of}
use Rattle.pen_core.specs.declared.step.PenStep as pen_step
use Rattle.pen_core.specs.declared.fault.PenFault.{PenFault}
use Rattle.pen_core.specs.declared.fault.PenFault.TheVariants as pen
use Rattle.flush_core.specs.declared.lane.Tick.{Tick}
use Rattle.flush_core.specs.declared.lane.Tick.TheVariants as ticks
use Rattle.flush_core.specs.declared.lane.Lane.TheVariants as lanes
use Rattle.flush_core.specs.Refusals.{IsLaneTicked}
use Rattle.drive_core.specs.declared.fault.StepFault.{StepFault}
use Rattle.drive_core.specs.declared.fault.StepFault.TheVariants.{Vault}
use Rattle.vault_core.specs.declared.fault.VaultFault.TheVariants as vault
use Rattle.drive_core.specs.Line.{Allows, Might, is_disk}
use Rattle.drive_core.specs.Medium.{Medium}
use Rattle.drive_core.specs.Step.{Step, Answer}
use Rattle.drive_core.specs.Step as step
use Rattle.drive_core.specs.World.{World, Hand, DiskOf, hand_of, file_with, growths_in}
use Rattle.drive_core.specs.Outcome.{elsewhere}
use Rattle.drive_core.specs.LaneRows.{IsLog, IsHome, log_fault_due, home_due, device_lines, home_calls, done, broken_by, IsJobLogged, IsLogged, IsFoldHomed, IsFiled, IsHomed}
use Rattle.drive_core.specs.Run.{LaneCalls, RefusedCalls}
use Rattle.drive_core.specs.Ties.{growths_in_hand, disk_of}
use Rattle.drive_core.proofs.Hands.{hand_stepped, hand_broken, hand_done, hand_homed, hand_filed}
use Rattle.drive_core.proofs.Tables.{passes, stops}

-- ---- a world with other parts

module _ {R : Type 0} where
  -- behind a call of the flusher
  abbrev pub behind_call : World R → ℕ → Hand → DiskOf → World R
  behind_call w settled hand disk = record w { settled = settled; hand = hand; disk = disk }

  pub parts_same : (w : World R) {s s' : ℕ} {h h' : Hand} {d d' : DiskOf} → s ≡ s' → h ≡ h' → d ≡ d' → behind_call w s h d ≡ behind_call w s' h' d'
  parts_same w p q r i = behind_call w (p i) (q i) (r i)

some_of : {A : Type 0} (o : Option A) → is_some o ≡ true → (x : A) × (o ≡ Some x)
some_of None is = absurd cc
some_of (Some x) is = (x, refl)

-- ---- tables

device_passes : (hand : Hand) (calls : Bool) → hand.broken ≡ false → Allows (device_lines hand calls) None
device_passes hand true whole = passes hand.broken (Vault (vault.Pen pen.Broken)) (Might is_disk ∷ []) None whole (inr refl)
device_passes hand false whole = passes hand.broken (Vault (vault.Pen pen.Broken)) [] None whole refl

device_broken : (hand : Hand) (calls : Bool) → hand.broken ≡ true → Allows (device_lines hand calls) (Some (Vault (vault.Pen pen.Broken)))
device_broken hand true broken = stops hand.broken (Vault (vault.Pen pen.Broken)) (Might is_disk ∷ []) broken
device_broken hand false broken = stops hand.broken (Vault (vault.Pen pen.Broken)) [] broken

device_fails : (hand : Hand) (calls : Bool) (fault : DiskFault) → hand.broken ≡ false → calls ≡ true → Allows (device_lines hand calls) (Some (Vault (vault.Pen (pen.Disk fault))))
device_fails hand true fault whole calls =
    let told : StepFault = Vault (vault.Pen (pen.Disk fault)) in
    passes hand.broken (Vault (vault.Pen pen.Broken)) (Might is_disk ∷ []) (Some told) whole (inl (told, refl, refl))
device_fails hand false fault whole calls = absurd cc

-- a tick calls the device once at most
pub due_few : (b : Bool) (o : Option JobOf) → calls_due b o ≤ 1
due_few true o = omega arith
due_few false None = omega arith
due_few false (Some job) = omega arith

pub home_few : (b : Bool) (o : Option FoldOf) → home_calls_due b o ≤ 1
home_few true o = omega arith
home_few false None = omega arith
home_few false (Some fold) = at (has_call fold.stage)
  where
    at : (c : Bool) → (if c then 1 else 0) ≤ 1
    at true = omega arith
    at false = omega arith

-- ---- a call that changes the pen, and what is settled

-- how many growths are settled by a tick
abbrev pub brought : Option JobOf → Tick → ℕ
brought job ticks.Idle = 0
brought job ticks.Step = 0
brought job ticks.Done = growths_in_hand job
brought job ticks.Filed = 0
brought job ticks.Waiting = 0

module _ {R D : Type 0} (m : Medium R D) (w : World R) (old new : PenOf D) (hand_is : w.hand ≡ hand_of old) (disk_is : w.disk ≡ disk_of m.states m.faults old.disk) (settled : ℕ) where
  -- the world behind it
  abbrev pub behind_pen : World R
  behind_pen = behind_call w settled (hand_of new) (disk_of m.states m.faults new.disk)

  -- A lane's event: its row, the count of its calls, and the disk where there was none.
  abbrev pub IsLaneEvent : Type 0 → Answer R → ℕ → Type 0
  IsLaneEvent Row answer n = Row × LaneCalls answer n × (n ≡ 0 → behind_pen.disk ≡ w.disk)

  -- ---- the hand is the pen's

  broken_is : w.hand.broken ≡ old.broken
  broken_is = ap (λ (h : Hand). h.broken) hand_is

  job_is : w.hand.job ≡ old.job
  job_is = ap (λ (h : Hand). h.job) hand_is

  fold_is : w.hand.fold ≡ old.fold
  fold_is = ap (λ (h : Hand). h.fold) hand_is

  -- nothing has changed
  same_disk : new.disk ≡ old.disk → behind_pen.disk ≡ w.disk
  same_disk same = ap (disk_of m.states m.faults) same ∙ sym disk_is

  same_world : new ≡ old → settled ≡ w.settled → behind_pen ≡ w
  same_world pen same = parts_same w same (ap hand_of pen ∙ sym hand_is) (same_disk (ap (λ (p : PenOf D). p.disk) pen))

  -- a call of the device has failed
  broken_world : IsBrokenBy old new → settled ≡ w.settled → behind_pen ≡ elsewhere (broken_by w) behind_pen
  broken_world by same = parts_same w same (hand_broken old new by ∙ (λ i. record (sym hand_is i) { broken = true })) refl

  has_failed : m.faults new.disk ≡ m.faults old.disk + 1 → w.disk.faults < behind_pen.disk.faults
  has_failed one = let was = ap (λ (d : DiskOf). d.faults) disk_is in omega (arith, one, was)

  -- ---- the counts of calls

  one_call : (answer : Answer R) {n : ℕ} → n ≡ 1 → (n ≡ 1 → LaneCalls answer n) → LaneCalls answer n × (n ≡ 0 → behind_pen.disk ≡ w.disk)
  one_call answer one calls = (calls one, λ none. absurd (omega (arith, one, none)))

  failed_call : (n : ℕ) (cause : DiskFault) → n ≡ 1 → RefusedCalls (Vault (vault.Pen (pen.Disk cause))) 1 n
  failed_call n cause one = (omega (arith, one), omega (arith, one))

  -- ---- the log

  abbrev log_due_calls : ℕ
  log_due_calls = calls_due old.broken old.job

  calls_of_job : {job : Option JobOf} → old.broken ≡ false → old.job ≡ job → log_due_calls ≡ calls_due false job
  calls_of_job whole is = ap (λ b. calls_due b old.job) whole ∙ ap (calls_due false) is

  log_row : (tick : Tick) → IsLaneTicked lanes.Log old new tick → old.broken ≡ false → new.broken ≡ false → settled ≡ w.settled + brought old.job tick
      → IsJobLogged w w.hand.job (step.Ticked tick) behind_pen
  log_row ticks.Idle ticked whole whole' more =
      subst (λ j. IsJobLogged w j (step.Ticked ticks.Idle) behind_pen) (sym (job_is ∙ ticked.0)) (refl, same_world ticked.1 (omega (arith, more)))
  log_row ticks.Step ticked whole whole' more =
      let job : JobOf = ticked.0 in
      let next : pen_step.PenStep = ticked.2.0 in
      let stepped : hand_of new ≡ record w.hand { job = Some (record job { step = next }) }
      = hand_stepped old new ticked.3 (whole' ∙ sym whole) ∙ (λ i. record (sym hand_is i) { job = ticked.2.2 i }) in
      subst (λ j. IsJobLogged w j (step.Ticked ticks.Step) behind_pen) (sym (job_is ∙ ticked.1))
      (subst (λ n. IsLogged w job n (step.Ticked ticks.Step) behind_pen) (sym ticked.2.1)
      (refl, parts_same w (omega (arith, more)) stepped refl))
  log_row ticks.Done ticked whole whole' more =
      let job : JobOf = ticked.0 in
      let last : step_after job.step ≡ None = ap step_after ticked.2 in
      let brings : growths_in_hand old.job ≡ growths_in job.frame = ap growths_in_hand ticked.1 in
      let all : settled ≡ w.settled + growths_in job.frame = omega (arith, more, brings) in
      let hand : hand_of new ≡ (done w job.frame).hand
      = hand_done old new job.frame ticked.3 (whole' ∙ sym whole)
      ∙ (λ i. let h : Hand = sym hand_is i in record h { file = file_with h.file job.frame; job = None; fold = pens.fold_behind job.frame h.fold }) in
      subst (λ j. IsJobLogged w j (step.Ticked ticks.Done) behind_pen) (sym (job_is ∙ ticked.1))
      (subst (λ n. IsLogged w job n (step.Ticked ticks.Done) behind_pen) (sym last)
      (refl, parts_same w all hand refl))
  log_row ticks.Filed ticked whole whole' more = absurd ticked
  log_row ticks.Waiting ticked whole whole' more = absurd ticked

  log_calls : (tick : Tick) → IsLaneTicked lanes.Log old new tick → old.broken ≡ false
      → LaneCalls {R = R} (step.Ticked tick) log_due_calls × (log_due_calls ≡ 0 → behind_pen.disk ≡ w.disk)
  log_calls ticks.Idle ticked whole = (calls_of_job whole ticked.0, λ none. same_disk (ap (λ (p : PenOf D). p.disk) ticked.1))
  log_calls ticks.Step ticked whole = one_call (step.Ticked ticks.Step) (calls_of_job whole ticked.1) (λ one. one)
  log_calls ticks.Done ticked whole = one_call (step.Ticked ticks.Done) (calls_of_job whole ticked.1) (λ one. one)
  log_calls ticks.Filed ticked whole = absurd ticked
  log_calls ticks.Waiting ticked whole = absurd ticked

  pub log_answered : (tick : Tick) → IsLaneTicked lanes.Log old new tick → old.broken ≡ false → new.broken ≡ false → settled ≡ w.settled + brought old.job tick
      → IsLaneEvent (IsLog w (step.Ticked tick) behind_pen) (step.Ticked tick) log_due_calls
  log_answered tick ticked whole whole' more =
      let called = log_calls tick ticked whole in
      (inl (device_passes w.hand (is_some w.hand.job) (broken_is ∙ whole), log_row tick ticked whole whole' more), called.0, called.1)

  abbrev LogRefused : PenFault → Type 0
  LogRefused fault = IsLaneEvent (IsLog w (step.Refused (Vault (vault.Pen fault))) behind_pen) (step.Refused (Vault (vault.Pen fault))) log_due_calls

  pub log_refused : (fault : PenFault) → IsTickFault old new fault → settled ≡ w.settled → m.faults new.disk ≡ m.faults old.disk + pens.failed_calls fault → LogRefused fault
  log_refused fault why same counted = elim why [
    | inl was ↦ subst LogRefused (sym was.0) (
      inr (Vault (vault.Pen pen.Broken), device_broken w.hand (is_some w.hand.job) (broken_is ∙ was.1), refl, same_world was.2 same),
      ap (λ b. calls_due b old.job) was.1,
      λ none. same_disk (ap (λ (p : PenOf D). p.disk) was.2),
    )
    | inr by ↦
        let cause : DiskFault = fault_of by.0.step in
        let one : log_due_calls ≡ 1 = calls_of_job by.1 by.2 in
        let failed = counted ∙ ap (λ f. m.faults old.disk + pens.failed_calls f) by.3 in
        let due : log_fault_due w.hand ≡ Some cause = ap log_fault_due hand_is ∙ ap (option_map (λ (job : JobOf). fault_of job.step)) by.2 in
        let allows = device_fails w.hand (is_some w.hand.job) cause (broken_is ∙ by.1) (ap is_some (job_is ∙ by.2)) in
        subst LogRefused (sym by.3) (
          inr (Vault (vault.Pen (pen.Disk cause)), allows, refl, (due, has_failed failed, broken_world by.4 same)),
          failed_call log_due_calls cause one,
          λ none. absurd (omega (arith, one, none)),
        )
  ]

  -- ---- the homes

  abbrev home_due_calls : ℕ
  home_due_calls = home_calls_due old.broken old.fold

  calls_of_fold : (fold : FoldOf) (b : Bool) → old.broken ≡ false → old.fold ≡ Some fold → has_call fold.stage ≡ b → home_due_calls ≡ (if b then 1 else 0)
  calls_of_fold fold b whole is calls = ap (λ x. home_calls_due x old.fold) whole ∙ ap (home_calls_due false) is ∙ ap (λ x. if x then 1 else 0) calls

  -- no call is due where the fold's frame has to wait
  waits : (ticked : IsLaneTicked lanes.Home old new ticks.Waiting) → has_call ticked.0.stage ≡ false
  waits ticked = elim ticked.1.at [ inl ready ↦ ap has_call ready | inr filed ↦ ap has_call filed ]

  home_row : (tick : Tick) → IsLaneTicked lanes.Home old new tick → old.broken ≡ false → new.broken ≡ false → settled ≡ w.settled
      → IsFoldHomed w w.hand.fold (step.Ticked tick) behind_pen
  home_row ticks.Idle ticked whole whole' same =
      subst (λ f. IsFoldHomed w f (step.Ticked ticks.Idle) behind_pen) (sym (fold_is ∙ ticked.0)) (refl, same_world ticked.1 same)
  home_row ticks.Step ticked whole whole' same =
      let fold : FoldOf = ticked.0 in
      let hand : hand_of new ≡ record w.hand { fold = Some (called fold) }
      = hand_homed old new fold ticked.2 (whole' ∙ sym whole) ∙ (λ i. record (sym hand_is i) { fold = Some (called fold) }) in
      subst (λ f. IsFoldHomed w f (step.Ticked ticks.Step) behind_pen) (sym (fold_is ∙ ticked.2.fold_was))
      (subst (λ b. IsHomed w fold b (step.Ticked ticks.Step) behind_pen) (sym ticked.1)
      (refl, parts_same w same hand refl))
  home_row ticks.Done ticked whole whole' same = absurd ticked
  home_row ticks.Filed ticked whole whole' same =
      let fold : FoldOf = ticked.0 in
      let job : Option JobOf = Some (record { frame = Fold fold.count; step = Body }) in
      let hand : hand_of new ≡ record w.hand { fold = Some (record fold { stage = stages.Filed }); job = job }
      = hand_filed old new fold ticked.1 (whole' ∙ sym whole) ∙ (λ i. record (sym hand_is i) { fold = Some (record fold { stage = stages.Filed }); job = job }) in
      subst (λ f. IsFoldHomed w f (step.Ticked ticks.Filed) behind_pen) (sym (fold_is ∙ ticked.1.fold_was))
      (subst (λ b. IsHomed w fold b (step.Ticked ticks.Filed) behind_pen) (sym (ap has_call ticked.1.ready))
      (subst (λ j. IsFiled w fold j (step.Ticked ticks.Filed) behind_pen) (sym (job_is ∙ ticked.1.idle))
      (refl, parts_same w same hand (same_disk ticked.1.disk_same))))
  home_row ticks.Waiting ticked whole whole' same =
      let fold : FoldOf = ticked.0 in
      let busy = some_of old.job ticked.1.busy in
      subst (λ f. IsFoldHomed w f (step.Ticked ticks.Waiting) behind_pen) (sym (fold_is ∙ ticked.1.fold_was))
      (subst (λ b. IsHomed w fold b (step.Ticked ticks.Waiting) behind_pen) (sym (waits ticked))
      (subst (λ j. IsFiled w fold j (step.Ticked ticks.Waiting) behind_pen) (sym (job_is ∙ busy.1)) (refl, same_world ticked.1.same same)))

  home_calls_are : (tick : Tick) → IsLaneTicked lanes.Home old new tick → old.broken ≡ false
      → LaneCalls {R = R} (step.Ticked tick) home_due_calls × (home_due_calls ≡ 0 → behind_pen.disk ≡ w.disk)
  home_calls_are ticks.Idle ticked whole =
      (ap (λ b. home_calls_due b old.fold) whole ∙ ap (home_calls_due false) ticked.0, λ none. same_disk (ap (λ (p : PenOf D). p.disk) ticked.1))
  home_calls_are ticks.Step ticked whole = one_call (step.Ticked ticks.Step) (calls_of_fold ticked.0 true whole ticked.2.fold_was ticked.1) (λ one. one)
  home_calls_are ticks.Done ticked whole = absurd ticked
  home_calls_are ticks.Filed ticked whole = (calls_of_fold ticked.0 false whole ticked.1.fold_was (ap has_call ticked.1.ready), λ none. same_disk ticked.1.disk_same)
  home_calls_are ticks.Waiting ticked whole =
      (calls_of_fold ticked.0 false whole ticked.1.fold_was (waits ticked), λ none. same_disk (ap (λ (p : PenOf D). p.disk) ticked.1.same))

  pub home_answered : (tick : Tick) → IsLaneTicked lanes.Home old new tick → old.broken ≡ false → new.broken ≡ false → settled ≡ w.settled
      → IsLaneEvent (IsHome w (step.Ticked tick) behind_pen) (step.Ticked tick) home_due_calls
  home_answered tick ticked whole whole' same =
      let called = home_calls_are tick ticked whole in
      (inl (device_passes w.hand (home_calls w.hand.fold) (broken_is ∙ whole), home_row tick ticked whole whole' same), called.0, called.1)

  abbrev HomeRefused : PenFault → Type 0
  HomeRefused fault = IsLaneEvent (IsHome w (step.Refused (Vault (vault.Pen fault))) behind_pen) (step.Refused (Vault (vault.Pen fault))) home_due_calls

  pub home_refused : (fault : PenFault) → IsHomeFault old new fault → settled ≡ w.settled → m.faults new.disk ≡ m.faults old.disk + pens.failed_calls fault → HomeRefused fault
  home_refused fault why same counted = elim why [
    | inl was ↦ subst HomeRefused (sym was.0) (
      inr (Vault (vault.Pen pen.Broken), device_broken w.hand (home_calls w.hand.fold) (broken_is ∙ was.1), refl, same_world was.2 same),
      ap (λ b. home_calls_due b old.fold) was.1,
      λ none. same_disk (ap (λ (p : PenOf D). p.disk) was.2),
    )
    | inr by ↦
        let cause : DiskFault = home_fault by.0.stage in
        let one : home_due_calls ≡ 1 = calls_of_fold by.0 true by.1 by.2 by.3 in
        let failed = counted ∙ ap (λ f. m.faults old.disk + pens.failed_calls f) by.4 in
        let has : home_calls w.hand.fold ≡ true = ap home_calls (fold_is ∙ by.2) ∙ by.3 in
        let due : home_due w.hand ≡ Some cause = ap home_due hand_is ∙ ap (option_map (λ (fold : FoldOf). home_fault fold.stage)) by.2 in
        let allows = device_fails w.hand (home_calls w.hand.fold) cause (broken_is ∙ by.1) has in
        subst HomeRefused (sym by.4) (
          inr (Vault (vault.Pen (pen.Disk cause)), allows, refl, (due, has_failed failed, broken_world by.5 same)),
          failed_call home_due_calls cause one,
          λ none. absurd (omega (arith, one, none)),
        )
  ]
