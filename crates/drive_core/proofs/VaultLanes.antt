-- The ticks and the fold of a vault as steps of the exclusive phase.
use Rattle.std.proofs.Common.{◌≡◌, inl, inr, ℕ, ◌+◌, ◌≤◌, None, Bool, true, false, List, length, take, refl, sym, ap, subst, ◌∙◌, arith}
use Rattle.std.proofs.Math.Seq.{take-length}
use Rattle.disk_core.specs.State.{State, IsImage, now}
use Rattle.disk_core.specs.Moments.{LeavesOnly, clock}
use Rattle.segment_core.specs.Command.{content}
use Rattle.segment_core.specs.Written.{joined}
use Rattle.pen_core.specs.PenOf.{PenOf}
use Rattle.pen_core.specs.Pen.{MayOpen, IsKept, IsFoldAnswer, IsUnchanged}
use Rattle.pen_core.specs.declared.fault.PenFault.TheVariants as pen
use Rattle.flush_core.specs.declared.lane.Lane.{Lane}
use Rattle.flush_core.specs.declared.lane.Lane.TheVariants as lanes
use Rattle.flush_core.specs.declared.lane.Tick.{Tick}
use Rattle.flush_core.specs.declared.lane.Tick.TheVariants as ticks
use Rattle.flush_core.specs.Refusals.{IsLaneTicked, lane_calls}
use Rattle.vault_core.specs.declared.fault.VaultFault.{VaultFault}
use Rattle.vault_core.specs.declared.fault.VaultFault.TheVariants as vault
use Rattle.vault_core.specs.Vault.{VaultOf, list_of, MayHold}
use Rattle.vault_core.specs.Commands as commands
use Rattle.drive_core.specs.declared.fault.StepFault.TheVariants.{Vault}
use Rattle.drive_core.specs.Rows.{ExclusiveRow}
use Rattle.drive_core.specs.Run.{HasCalls}
use Rattle.drive_core.specs.Outcome.{stray_in}
use Rattle.drive_core.specs.LaneRows.{lane_step}
use Rattle.drive_core.specs.Medium.{Medium}
use Rattle.drive_core.specs.Step.{Step, Answer}
use Rattle.drive_core.specs.Step as step
use Rattle.drive_core.specs.World.{World, DiskOf, hand_of}
use Rattle.drive_core.specs.Ties.{growths_in_hand, disk_of}
use Rattle.drive_core.specs.VaultTies.{IsExclusive, VaultStep}
use Rattle.drive_core.proofs.Hands.{hand_unchanged}
use Rattle.drive_core.proofs.PenLanes.{behind_call, brought, log_answered, log_refused, home_answered, home_refused, due_few, home_few}
use Rattle.drive_core.proofs.PenFolds.{Plans, Opening, fold_answered, fold_refused, begun_disk, begun_job}
use Rattle.drive_core.proofs.PenTests.{differ}
use Rattle.drive_core.proofs.Steps.{answered}
use Rattle.drive_core.proofs.VaultEvents.{Holds, held, vault_steps, still_steps, same_steps, vault_rests, vault_leaves}

-- What the vault promises of a tick, whatever it answers: the list is as it was, and each image opens to what could be held.
pub record IsTick {R D : Type 0} (m : Medium R D) (old new : VaultOf R D) : Type 0 where
  pub blocks : new.blocks ≡ old.blocks
  pub images : m.keeps new.pen.disk → LeavesOnly (m.states old.pen.disk) (m.states new.pen.disk) (MayHold m.form old)
  pub model : m.keeps new.pen.disk → m.keeps old.pen.disk
  pub rests : Holds m new new.pen.disk

module _ {R D : Type 0} {m : Medium R D} {w : World R} {v new : VaultOf R D} (tie : IsExclusive m w v) (tick : IsTick m v new) where
  -- the world behind it
  abbrev behind : World R
  behind = behind_call w w.settled (hand_of new.pen) (disk_of m.states m.faults new.pen.disk)

  ticked_tie : (m.keeps new.pen.disk → content w.base (take w.settled w.history) ≡ new.sure)
      → (new.pen.broken ≡ false → (w.settled ≡ length w.history) × (growths_in_hand new.pen.job ≡ 0))
      → IsExclusive m behind new
  ticked_tie sure whole = record {
    phase_is = tie.phase_is;
    calm = tie.calm;
    list_is = tie.list_is ∙ ap joined (sym tick.blocks);
    sure_is = sure;
    settled_within = tie.settled_within;
    whole = λ on. (whole on).0;
    brings_none = λ on. (whole on).1;
    hand_is = refl;
    disk_is = refl;
  }

  -- from the pen's event
  by_event : {asked : Step R} {answer same : Answer R} (n : ℕ) → answer ≡ same → clock (m.states new.pen.disk) ≡ clock (m.states v.pen.disk) + n → n ≤ 1
      → ExclusiveRow m.form (m.keeps new.pen.disk) w asked same behind → HasCalls w asked same n → (n ≡ 0 → behind.disk ≡ w.disk) → stray_in same ≡ None → IsExclusive m behind new
      → VaultStep m w v new asked answer
  by_event n is time few row calls still calm tied =
      answered is (vault_steps tie new behind n row calls time (omega (arith, few)) still calm tied
      (λ kept. vault_leaves tie new behind refl (held tie (tick.model kept)) (tick.images kept)) (λ kept. vault_rests tied kept tick.rests))

  -- ---- a tick that was answered

  module _ (whole : v.pen.broken ≡ false) (sure : m.keeps new.pen.disk → new.sure ≡ list_of new) where
    all_sure : m.keeps new.pen.disk → content w.base (take w.settled w.history) ≡ new.sure
    all_sure kept =
        ap (λ n. content w.base (take n w.history)) (tie.whole whole) ∙ ap (content w.base) (take-length w.history)
        ∙ tie.list_is ∙ ap joined (sym tick.blocks) ∙ sym (sure kept)

    answered_tie : growths_in_hand new.pen.job ≡ 0 → IsExclusive m behind new
    answered_tie none = ticked_tie all_sure (λ on. (tie.whole whole, none))

    brings_log : (tick : Tick) → IsLaneTicked lanes.Log v.pen new.pen tick → growths_in_hand new.pen.job ≡ 0
    brings_log ticks.Idle ticked = ap (λ (p : PenOf D). growths_in_hand p.job) ticked.1 ∙ tie.brings_none whole
    brings_log ticks.Step ticked = ap growths_in_hand ticked.2.2 ∙ ap growths_in_hand (sym ticked.1) ∙ tie.brings_none whole
    brings_log ticks.Done ticked = ap growths_in_hand ticked.3.job_done
    brings_log ticks.Filed ticked = absurd ticked
    brings_log ticks.Waiting ticked = absurd ticked

    brings_home : (tick : Tick) → IsLaneTicked lanes.Home v.pen new.pen tick → growths_in_hand new.pen.job ≡ 0
    brings_home ticks.Idle ticked = ap (λ (p : PenOf D). growths_in_hand p.job) ticked.1 ∙ tie.brings_none whole
    brings_home ticks.Step ticked = ap growths_in_hand ticked.2.job_same ∙ tie.brings_none whole
    brings_home ticks.Done ticked = absurd ticked
    brings_home ticks.Filed ticked = ap growths_in_hand ticked.1.job_is
    brings_home ticks.Waiting ticked = ap (λ (p : PenOf D). growths_in_hand p.job) ticked.1.same ∙ tie.brings_none whole

    none_brought : (tick : Tick) → w.settled ≡ w.settled + brought v.pen.job tick
    none_brought ticks.Idle = omega arith
    none_brought ticks.Step = omega arith
    none_brought ticks.Done = let none = tie.brings_none whole in omega (arith, none)
    none_brought ticks.Filed = omega arith
    none_brought ticks.Waiting = omega arith

    log_answers : {answer : Answer R} (tick : Tick) → answer ≡ step.Ticked tick → IsLaneTicked lanes.Log v.pen new.pen tick → new.pen.broken ≡ false
        → clock (m.states new.pen.disk) ≡ clock (m.states v.pen.disk) + lane_calls lanes.Log v.pen → VaultStep m w v new step.Log answer
    log_answers tick is ticked whole' time =
        let n : ℕ = lane_calls lanes.Log v.pen in
        let event = log_answered m w v.pen new.pen tie.hand_is tie.disk_is w.settled tick ticked whole whole' (none_brought tick) in
        by_event n is time (due_few v.pen.broken v.pen.job) event.0 event.1 event.2 refl (answered_tie (brings_log tick ticked))

    home_answers : {answer : Answer R} (tick : Tick) → answer ≡ step.Ticked tick → IsLaneTicked lanes.Home v.pen new.pen tick → new.pen.broken ≡ false
        → clock (m.states new.pen.disk) ≡ clock (m.states v.pen.disk) + lane_calls lanes.Home v.pen → VaultStep m w v new step.Home answer
    home_answers tick is ticked whole' time =
        let n : ℕ = lane_calls lanes.Home v.pen in
        let event = home_answered m w v.pen new.pen tie.hand_is tie.disk_is w.settled tick ticked whole whole' refl in
        by_event n is time (home_few v.pen.broken v.pen.fold) event.0 event.1 event.2 refl (answered_tie (brings_home tick ticked))

    pub lane_answers : {answer : Answer R} (lane : Lane) (tick : Tick) → answer ≡ step.Ticked tick → IsLaneTicked lane v.pen new.pen tick → new.pen.broken ≡ false
        → clock (m.states new.pen.disk) ≡ clock (m.states v.pen.disk) + lane_calls lane v.pen → VaultStep m w v new (lane_step lane) answer
    lane_answers lanes.Log tick is ticked whole' time = log_answers tick is ticked whole' time
    lane_answers lanes.Home tick is ticked whole' time = home_answers tick is ticked whole' time

  -- ---- a tick that was refused

  module _ (sure : m.keeps new.pen.disk → new.sure ≡ v.sure) where
    broken_tie : new.pen.broken ≡ true → IsExclusive m behind new
    broken_tie broken = ticked_tie (λ kept. tie.sure_is (tick.model kept) ∙ sym (sure kept)) (λ on. absurd (differ (sym broken ∙ on)))

    log_refuses : {answer : Answer R} (fault : VaultFault) → answer ≡ step.Refused (Vault fault) → commands.IsVaultLaneFault lanes.Log v.pen new.pen fault
        → clock (m.states new.pen.disk) ≡ clock (m.states v.pen.disk) + lane_calls lanes.Log v.pen → m.faults new.pen.disk ≡ m.faults v.pen.disk + commands.failed fault
        → VaultStep m w v new step.Log answer
    log_refuses (vault.Unsettled number) is why time counted = absurd why
    log_refuses vault.WrongPhase is why time counted = absurd why
    log_refuses (vault.Pen fault) is why time counted =
        let n : ℕ = lane_calls lanes.Log v.pen in
        let event = log_refused m w v.pen new.pen tie.hand_is tie.disk_is w.settled fault why refl counted in
        let broken : new.pen.broken ≡ true = elim why [ inl was ↦ ap (λ (p : PenOf D). p.broken) was.2 ∙ was.1 | inr by ↦ by.4.broken ] in
        by_event n is time (due_few v.pen.broken v.pen.job) event.0 event.1 event.2 refl (broken_tie broken)

    home_refuses : {answer : Answer R} (fault : VaultFault) → answer ≡ step.Refused (Vault fault) → commands.IsVaultLaneFault lanes.Home v.pen new.pen fault
        → clock (m.states new.pen.disk) ≡ clock (m.states v.pen.disk) + lane_calls lanes.Home v.pen → m.faults new.pen.disk ≡ m.faults v.pen.disk + commands.failed fault
        → VaultStep m w v new step.Home answer
    home_refuses (vault.Unsettled number) is why time counted = absurd why
    home_refuses vault.WrongPhase is why time counted = absurd why
    home_refuses (vault.Pen fault) is why time counted =
        let n : ℕ = lane_calls lanes.Home v.pen in
        let event = home_refused m w v.pen new.pen tie.hand_is tie.disk_is w.settled fault why refl counted in
        let broken : new.pen.broken ≡ true = elim why [ inl was ↦ ap (λ (p : PenOf D). p.broken) was.2 ∙ was.1 | inr by ↦ by.5.broken ] in
        by_event n is time (home_few v.pen.broken v.pen.fold) event.0 event.1 event.2 refl (broken_tie broken)

    pub lane_refuses : {answer : Answer R} (lane : Lane) (fault : VaultFault) → answer ≡ step.Refused (Vault fault) → commands.IsVaultLaneFault lane v.pen new.pen fault
        → clock (m.states new.pen.disk) ≡ clock (m.states v.pen.disk) + lane_calls lane v.pen → m.faults new.pen.disk ≡ m.faults v.pen.disk + commands.failed fault
        → VaultStep m w v new (lane_step lane) answer
    lane_refuses lanes.Log fault is why time counted = log_refuses fault is why time counted
    lane_refuses lanes.Home fault is why time counted = home_refuses fault is why time counted

module _ {R D : Type 0} {m : Medium R D} {w : World R} {v : VaultOf R D} (tie : IsExclusive m w v) (new : VaultOf R D) where
  -- ---- a fold's begin

  module _ (blocks : new.blocks ≡ v.blocks) (sure : new.sure ≡ v.sure) where
    begun_tie : new.pen.disk ≡ v.pen.disk → new.pen.job ≡ v.pen.job → (new.pen.broken ≡ false → v.pen.broken ≡ false) → IsExclusive m (record w { hand = hand_of new.pen }) new
    begun_tie disk job whole = record {
      phase_is = tie.phase_is;
      calm = tie.calm;
      list_is = tie.list_is ∙ ap joined (sym blocks);
      sure_is = λ kept. tie.sure_is (subst m.keeps disk kept) ∙ sym sure;
      settled_within = tie.settled_within;
      whole = λ on. tie.whole (whole on);
      brings_none = λ on. ap growths_in_hand job ∙ tie.brings_none (whole on);
      hand_is = refl;
      disk_is = tie.disk_is ∙ ap (disk_of m.states m.faults) (sym disk);
    }

    was_whole : (begun : Bool) → IsFoldAnswer v.pen new.pen begun → v.pen.broken ≡ false
    was_whole true by = by.ready.0
    was_whole false by = by.0.0

    pub fold_answers : {answer : Answer R} → Plans w v.pen new.pen tie.hand_is (m.keeps v.pen.disk)
        → (m.keeps v.pen.disk → (image : List ℕ) → IsImage (now (m.states v.pen.disk)) image → MayOpen v.pen image)
        → (begun : Bool) → answer ≡ step.Begun begun → IsFoldAnswer v.pen new.pen begun → VaultStep m w v new step.Fold answer
    fold_answers plans opens begun is by =
        let disk = begun_disk w v.pen new.pen tie.hand_is begun by in
        let planned : Plans w v.pen new.pen tie.hand_is (m.keeps new.pen.disk) = λ kept. plans (subst m.keeps disk kept) in
        let opening : Opening w v.pen new.pen tie.hand_is (m.keeps new.pen.disk)
        = λ kept image left. opens (subst m.keeps disk kept) image (subst (λ (d : DiskOf). IsImage (now d.states) image) tie.disk_is left) in
        answered is (still_steps tie new (record w { hand = hand_of new.pen }) (fold_answered w v.pen new.pen tie.hand_is (m.keeps new.pen.disk) planned opening begun by) refl disk refl
        (begun_tie disk (begun_job w v.pen new.pen tie.hand_is begun by) (λ on. was_whole begun by)))

    pub fold_refuses : {answer : Answer R} (fault : VaultFault) → answer ≡ step.Refused (Vault fault) → commands.IsVaultFoldFault v.pen fault → IsUnchanged v.pen new.pen
        → VaultStep m w v new step.Fold answer
    fold_refuses (vault.Unsettled number) is why same = absurd why
    fold_refuses vault.WrongPhase is why same = absurd why
    fold_refuses (vault.Pen fault) is why same =
        let unmoved : record w { hand = hand_of new.pen } ≡ w = λ i. record w { hand = (hand_unchanged v.pen new.pen same ∙ sym tie.hand_is) i } in
        answered is (still_steps tie new w (fold_refused w v.pen new.pen tie.hand_is (m.keeps new.pen.disk) fault why) refl same.disk_same refl
        (subst (λ x. IsExclusive m x new) unmoved (begun_tie same.disk_same same.job_same (λ on. sym same.broken_same ∙ on))))

-- ---- the list

module _ {R D : Type 0} {m : Medium R D} {w : World R} {v : VaultOf R D} {answer : Answer R} (tie : IsExclusive m w v) where
  pub list_answers : (records : List R) → answer ≡ step.Listed records → records ≡ list_of v → VaultStep m w v v step.Listing answer
  list_answers records is list = answered is (same_steps tie refl (inl (inr refl, (ap step.Listed (list ∙ sym tie.list_is), refl))) refl refl)

  pub list_refuses : answer ≡ step.Refused (Vault (vault.Pen pen.Memory)) → VaultStep m w v v step.Listing answer
  list_refuses is = answered is (same_steps tie refl (inr (Vault (vault.Pen pen.Memory), inl (Vault (vault.Pen pen.Memory), refl, refl), refl, refl)) refl refl)

-- what a crash leaves of the disk as it is lent, by the pen
pub opens_lent : {D : Type 0} (keeps : D → Type 0) (states : D → List State) (p : PenOf D) {lent : D} → lent ≡ p.disk → (keeps lent → IsKept (states lent) p)
    → keeps p.disk → (image : List ℕ) → IsImage (now (states p.disk)) image → MayOpen p image
opens_lent {D} keeps states p is holds kept image left = (subst (λ (d : D). keeps d → IsKept (states d) p) is holds kept).images_open image left
