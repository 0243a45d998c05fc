-- The log, ticked to its end.
use Rattle.std.proofs.Common.{◌≡◌, ◌⊎◌, ℕ, ◌+◌, ◌<◌, List, false, Option, Some, None, inl, inr, length, refl, sym, ap, subst, ◌∙◌, arith}
use Rattle.std.specs.Prelude.{MatchOption, IfSome}
use Rattle.std.proofs.lemmas.Option.{same_Some}
use Rattle.disk_core.specs.State.{State}
use Rattle.disk_core.specs.Moments.{LeavesOnly, clock}
use Rattle.disk_core.proofs.JoinedMoments.{LeavesOnly-weaker, LeavesOnly-join}
use Rattle.pen_core.specs.declared.step.PenStep.{PenStep}
use Rattle.pen_core.specs.declared.step.PenStep.TheVariants.{Body, BodySync, Gate, GateSync}
use Rattle.pen_core.specs.declared.stage.Ticked.{Ticked}
use Rattle.pen_core.specs.declared.stage.Ticked.TheVariants as ticks
use Rattle.pen_core.specs.declared.fault.PenFault.{PenFault}
use Rattle.pen_core.specs.Step.{step_after, steps_left}
use Rattle.pen_core.specs.PenOf.{PenOf, JobOf}
use Rattle.segment_core.specs.Frame.{frame_text}
use Rattle.segment_core.specs.Tally.{after}
use Rattle.pen_core.specs.Pen.{OpensWith, MayOpen, CountsSame, CountsDone, FileSame, IsTicked, FileTicked, IsTickFault, calls_due, log_left, failed_calls, vector_after, vector_with, FileGains}
use Rattle.pen_core.specs.Pen.{fold_behind}
use Rattle.pen_core.proofs.Typed.{vector_after-none, vector_after-done}
use Rattle.pen_core.specs.Settled.{IsLogSettled, IsLogFault, LogGoes, frames_after, frames_and}

-- ---- options

pub match_some : {A : Type 0} (N : Type 0) (S : A → Type 0) (o : Option A) (a : A) → o ≡ Some a → S a → MatchOption o N S
match_some N S None a is s = absurd cc
match_some N S (Some b) a is s = subst S (sym (same_Some b a is)) s

pub match_none : {A : Type 0} (N : Type 0) (S : A → Type 0) (o : Option A) → o ≡ None → N → MatchOption o N S
match_none N S None is n = n
match_none N S (Some a) is n = absurd cc

-- ---- steps

pub steps_left-after : (step next : PenStep) → step_after step ≡ Some next → steps_left next + 1 ≡ steps_left step
steps_left-after Body next is = ap (λ s. steps_left s + 1) (sym (same_Some BodySync next is))
steps_left-after BodySync next is = ap (λ s. steps_left s + 1) (sym (same_Some Gate next is))
steps_left-after Gate next is = ap (λ s. steps_left s + 1) (sym (same_Some GateSync next is))
steps_left-after GateSync next is = absurd cc

counts_join : {D : Type 0} (old mid new : PenOf D) → CountsSame old mid → CountsSame mid new → CountsSame old new
counts_join old mid new first then = record {
  shape_same = then.shape_same ∙ first.shape_same;
  fold_same = then.fold_same ∙ first.fold_same;
  tally_same = then.tally_same ∙ first.tally_same;
  gate_same = then.gate_same ∙ first.gate_same;
  room_same = then.room_same ∙ first.room_same;
  places_same = then.places_same ∙ first.places_same;
}

-- once the job is done the frames are the pen's
frames_after-done : {D : Type 0} (old new : PenOf D) (job : JobOf) → old.job ≡ Some job
    → IfSome old.job (λ job. FileGains job.frame old new) → new.frames ≡ frames_after old
frames_after-done old new job is file = at old.job is file
  where
    at : (o : Option JobOf) → o ≡ Some job → IfSome o (λ job. FileGains job.frame old new) → new.frames ≡ frames_and old.frames o
    at None is file = absurd cc
    at (Some done) is gains = gains.frames_more

-- what one of two pens may open to that differ in the step of the job alone, the other may
pub MayOpen-step : {D : Type 0} (old mid : PenOf D) (job : JobOf) (step : PenStep) → mid.shape ≡ old.shape → FileSame old mid
    → old.job ≡ Some job → mid.job ≡ Some (record { frame = job.frame; step = step }) → (image : List ℕ) → MayOpen mid image
    → MayOpen old image
MayOpen-step old mid job step shape file was is image opens =
    subst (λ j. OpensWith old.shape old.frames old.vector j image) (sym was)
    (subst (λ v. OpensWith old.shape old.frames v (Some job) image) file.vector_same
    (subst (λ fs. OpensWith old.shape fs mid.vector (Some job) image) file.frames_same
    (subst (λ s. OpensWith s mid.frames mid.vector (Some job) image) shape
    (subst (λ j. OpensWith mid.shape mid.frames mid.vector j image) is opens))))

module _ {D : Type 0} (keeps : D → Type 0) (states : D → List State) (faults : D → ℕ) where
  -- ---- stretches

  -- one call
  pub LogGoes-tick : (old new : PenOf D) → IsTicked old new ticks.Step → (keeps new.disk → FileTicked old new ticks.Step)
      → (keeps new.disk → LeavesOnly (states old.disk) (states new.disk) (MayOpen old))
      → (old.broken ≡ false) × (new.broken ≡ false)
      → clock (states new.disk) ≡ clock (states old.disk) + calls_due old.broken old.job → faults new.disk ≡ faults old.disk
      → (keeps new.disk → keeps old.disk) → (keeps old.disk → keeps new.disk) → LogGoes keeps states faults old new
  LogGoes-tick old new ticked file images whole time no_fault model goes_on =
      let job = ticked.0 in
      let was = ticked.1 in
      let next = ticked.2 in
      let due : calls_due old.broken old.job ≡ 1 = ap (λ b. calls_due b old.job) whole.0 ∙ ap (calls_due false) was in
      let left : log_left old.job ≡ steps_left job.step = ap log_left was in
      let then : log_left new.job ≡ steps_left next.0 = ap log_left next.2 in
      let less = steps_left-after job.step next.0 next.1 in
      record {
        images = images;
        job = job;
        step = next.0;
        job_was = was;
        job_is = next.2;
        counts_same = ticked.3;
        file_same = file;
        whole = whole;
        time = omega arith;
        no_fault = no_fault;
        model = model;
        goes_on = goes_on;
      }

  file_join : (old mid new : PenOf D) → FileSame old mid → FileSame mid new → FileSame old new
  file_join old mid new first then = record { frames_same = then.frames_same ∙ first.frames_same; vector_same = then.vector_same ∙ first.vector_same }

  -- what a call behind a stretch may leave
  pub LogGoes-images : (old mid new : PenOf D) → LogGoes keeps states faults old mid → keeps mid.disk
      → LeavesOnly (states mid.disk) (states new.disk) (MayOpen mid)
      → LeavesOnly (states old.disk) (states new.disk) (MayOpen old)
  LogGoes-images old mid new goes model images =
      LeavesOnly-join (states old.disk) (states mid.disk) (states new.disk) (MayOpen old) (goes.images model)
      (LeavesOnly-weaker (states mid.disk) (states new.disk) (MayOpen mid) (MayOpen old)
      (MayOpen-step old mid goes.job goes.step goes.counts_same.shape_same (goes.file_same model) goes.job_was goes.job_is)
      images)

  LogGoes-join : (old mid new : PenOf D) → LogGoes keeps states faults old mid → LogGoes keeps states faults mid new → LogGoes keeps states faults old new
  LogGoes-join old mid new first then =
      let time₁ = first.time in
      let time₂ = then.time in
      let same : first.job.frame ≡ then.job.frame =
      ap (λ (j : JobOf). j.frame)
      (same_Some (record { frame = first.job.frame; step = first.step }) then.job (sym first.job_is ∙ then.job_was)) in
      record {
        images = λ now. LogGoes-images old mid new first (then.model now) (then.images now);
        job = first.job;
        step = then.step;
        job_was = first.job_was;
        job_is = then.job_is ∙ ap (λ f. Some (record { frame = f; step = then.step })) (sym same);
        counts_same = counts_join old mid new first.counts_same then.counts_same;
        file_same = λ now. file_join old mid new (first.file_same (then.model now)) (then.file_same now);
        whole = (first.whole.0, then.whole.1);
        time = omega arith;
        no_fault = then.no_fault ∙ first.no_fault;
        model = λ now. first.model (then.model now);
        goes_on = λ was. then.goes_on (first.goes_on was);
      }

  -- where nothing may have been done before
  pub LogGoes-first : (old mid new : PenOf D) → (mid ≡ old) ⊎ LogGoes keeps states faults old mid
      → LogGoes keeps states faults mid new → LogGoes keeps states faults old new
  LogGoes-first old mid new so_far then = elim so_far [
    | inl same ↦ subst (λ (p : PenOf D). LogGoes keeps states faults p new) same then
    | inr first ↦ LogGoes-join old mid new first then
  ]

  -- ---- the end

  module _ (old mid new : PenOf D) (so_far : (mid ≡ old) ⊎ LogGoes keeps states faults old mid) where
    pub ended_images : (keeps new.disk → keeps mid.disk)
        → (keeps new.disk → LeavesOnly (states mid.disk) (states new.disk) (MayOpen mid)) → keeps new.disk
        → LeavesOnly (states old.disk) (states new.disk) (MayOpen old)
    ended_images model images now = elim so_far [
      | inl same ↦ subst (λ (p : PenOf D). LeavesOnly (states p.disk) (states new.disk) (MayOpen p)) same (images now)
      | inr first ↦ LogGoes-images old mid new first (model now) (images now)
    ]

    pub ended_model : (keeps new.disk → keeps mid.disk) → keeps new.disk → keeps old.disk
    ended_model model now = elim so_far [
      | inl same ↦ subst (λ (p : PenOf D). keeps p.disk) same (model now)
      | inr first ↦ first.model (model now)
    ]

    pub ended_goes_on : (keeps mid.disk → keeps new.disk) → keeps old.disk → keeps new.disk
    ended_goes_on goes was = elim so_far [
      | inl same ↦ goes (subst (λ (p : PenOf D). keeps p.disk) (sym same) was)
      | inr first ↦ goes (first.goes_on was)
    ]

    pub ended_faults : (n : ℕ) → faults new.disk ≡ faults mid.disk + n → faults new.disk ≡ faults old.disk + n
    ended_faults n is = elim so_far [
      | inl same ↦ is ∙ ap (λ (p : PenOf D). faults p.disk + n) same
      | inr first ↦ is ∙ ap (λ k. k + n) first.no_fault
    ]

    pub ended_whole : mid.broken ≡ false → old.broken ≡ false
    ended_whole whole = elim so_far [
      | inl same ↦ sym (ap (λ (p : PenOf D). p.broken) same) ∙ whole
      | inr first ↦ first.whole.0
    ]

    -- so many calls are behind it
    so_far_time : clock (states mid.disk) + log_left mid.job ≡ clock (states old.disk) + log_left old.job
    so_far_time = elim so_far [
      | inl same ↦ ap (λ (p : PenOf D). clock (states p.disk) + log_left p.job) same
      | inr first ↦ first.time
    ]

    -- no job was in hand
    pub idle_same : mid.job ≡ None → mid ≡ old
    idle_same none = elim so_far [
      | inl same ↦ same
      | inr first ↦ (let is = first.job_is in absurd cc)
    ]

    pub idle_settled : IsTicked mid new ticks.Idle → IsLogSettled old new
    idle_settled ticked =
        let same = idle_same ticked.0 in
        match_none (new ≡ old) (λ (job : JobOf). CountsDone job.frame old new) old.job
        (ap (λ (p : PenOf D). p.job) (sym same) ∙ ticked.0) (ticked.1 ∙ same)

    pub idle_file : IsTicked mid new ticks.Idle → new.vector ≡ vector_after old
    idle_file ticked =
        let same = idle_same ticked.0 in
        ap (λ (p : PenOf D). p.vector) (ticked.1 ∙ same) ∙ sym (vector_after-none old (ap (λ (p : PenOf D). p.job) (sym same) ∙ ticked.0))

    pub idle_frames : IsTicked mid new ticks.Idle → new.frames ≡ frames_after old
    idle_frames ticked =
        let same = idle_same ticked.0 in
        ap (λ (p : PenOf D). p.frames) (ticked.1 ∙ same) ∙ sym (ap (frames_and old.frames) (ap (λ (p : PenOf D). p.job) (sym same) ∙ ticked.0))

    pub idle_time : IsTicked mid new ticks.Idle → clock (states new.disk) ≡ clock (states old.disk) + log_left old.job
    idle_time ticked =
        let before = so_far_time in
        let none : log_left mid.job ≡ 0 = ap log_left ticked.0 in
        let same : clock (states new.disk) ≡ clock (states mid.disk) = ap (λ (p : PenOf D). clock (states p.disk)) ticked.1 in
        omega arith

    -- the last call succeeded
    done_from : (job : JobOf) → mid.job ≡ Some job → (was : JobOf) × (old.job ≡ Some was) × (was.frame ≡ job.frame)
    done_from job is = elim so_far [
      | inl same ↦ (job, ap (λ (p : PenOf D). p.job) (sym same) ∙ is, refl)
      | inr
          first ↦ (
            first.job,
            first.job_was,
            ap (λ (j : JobOf). j.frame)
                (same_Some (record { frame = first.job.frame; step = first.step }) job (sym first.job_is ∙ is)),
          )
    ]

    so_far_counts : CountsSame old mid
    so_far_counts = elim so_far [
      | inl same ↦ record {
        shape_same = ap (λ (p : PenOf D). p.shape) same;
        fold_same = ap (λ (p : PenOf D). p.fold) same;
        tally_same = ap (λ (p : PenOf D). p.tally) same;
        gate_same = ap (λ (p : PenOf D). p.gate) same;
        room_same = ap (λ (p : PenOf D). p.room) same;
        places_same = ap (λ (p : PenOf D). p.places) same;
      }
      | inr first ↦ first.counts_same
    ]

    pub done_settled : IsTicked mid new ticks.Done → IsLogSettled old new
    done_settled ticked =
        let from = done_from ticked.0 ticked.1 in
        let done : CountsDone from.0.frame mid new = subst (λ f. CountsDone f mid new) (sym from.2) ticked.3 in
        let same = so_far_counts in
        match_some (new ≡ old) (λ (job : JobOf). CountsDone job.frame old new) old.job from.0 from.1 (record {
          shape_same = done.shape_same ∙ same.shape_same;
          fold_is = done.fold_is ∙ ap (fold_behind from.0.frame) same.fold_same;
          tally_is = done.tally_is ∙ ap (λ t. after t from.0.frame) same.tally_same;
          gate_is =
              done.gate_is ∙ ap (λ g. g + length (frame_text mid.shape.format from.0.frame)) same.gate_same
              ∙ ap (λ s. old.gate + length (frame_text s.format from.0.frame)) same.shape_same;
          room_same = λ kind. done.room_same kind ∙ same.room_same;
          places_same = λ kind. done.places_same kind ∙ same.places_same;
          job_done = done.job_done;
        })

    pub done_file : keeps mid.disk → IsTicked mid new ticks.Done → FileTicked mid new ticks.Done → new.vector ≡ vector_after old
    done_file model ticked file = vector_after-done mid new ticked.0 ticked.1 file ∙ elim so_far [
      | inl same ↦ ap vector_after same
      | inr first ↦ (
          let same = first.file_same model in
          ap (vector_with mid.shape mid.vector) first.job_is ∙ ap (λ s. vector_with s mid.vector (Some first.job)) first.counts_same.shape_same
          ∙ ap (λ v. vector_with old.shape v (Some first.job)) same.vector_same ∙ ap (vector_with old.shape old.vector) (sym first.job_was))
    ]

    pub done_frames : keeps mid.disk → IsTicked mid new ticks.Done → FileTicked mid new ticks.Done → new.frames ≡ frames_after old
    done_frames model ticked file = frames_after-done mid new ticked.0 ticked.1 file ∙ elim so_far [
      | inl same ↦ ap frames_after same
      | inr first ↦ (
          ap (frames_and mid.frames) first.job_is
          ∙ ap (λ fs. frames_and fs (Some first.job)) (first.file_same model).frames_same ∙ ap (frames_and old.frames) (sym first.job_was))
    ]

    pub done_time : IsTicked mid new ticks.Done → mid.broken ≡ false
        → clock (states new.disk) ≡ clock (states mid.disk) + calls_due mid.broken mid.job
        → clock (states new.disk) ≡ clock (states old.disk) + log_left old.job
    done_time ticked whole time =
        let before = so_far_time in
        let due : calls_due mid.broken mid.job ≡ 1 = ap (λ b. calls_due b mid.job) whole ∙ ap (calls_due false) ticked.1 in
        let left : log_left mid.job ≡ 1 = ap log_left ticked.1 ∙ ap steps_left ticked.2 in
        omega arith

    -- a call failed
    pub fault_is : (fault : PenFault) → IsTickFault mid new fault → IsLogFault old new fault
    fault_is fault why = elim why [
      | inl barred ↦ elim so_far [
        | inl same ↦ inl (barred.0, ap (λ (p : PenOf D). p.broken) (sym same) ∙ barred.1, barred.2 ∙ same)
        | inr first ↦ (let whole = first.whole.1 in let broken = barred.1 in absurd cc)
      ]
      | inr failed ↦ (
          let from = done_from failed.0 failed.2 in
          inr (
            from.0,
            failed.0.step,
            ended_whole failed.1,
            from.1,
            failed.3,
            record {
              job_is = failed.4.job_same ∙ failed.2 ∙ ap (λ f. Some (record { frame = f; step = failed.0.step })) (sym from.2);
              broken = failed.4.broken;
              counts_same = counts_join old mid new so_far_counts failed.4.counts_same;
            },
          ))
    ]

    pub fault_file : (keeps new.disk → keeps mid.disk) → (keeps new.disk → FileSame mid new) → keeps new.disk → FileSame old new
    fault_file model file now = elim so_far [
      | inl same ↦ subst (λ (p : PenOf D). FileSame p new) same (file now)
      | inr first ↦ file_join old mid new (first.file_same (model now)) (file now)
    ]

    pub fault_time : (fault : PenFault) → IsTickFault mid new fault
        → clock (states new.disk) ≡ clock (states mid.disk) + calls_due mid.broken mid.job
        → clock (states new.disk) + log_left new.job ≡ clock (states old.disk) + log_left old.job + failed_calls fault
    fault_time fault why time = elim why [
      | inl barred ↦ (
          let before = so_far_time in
          let none : failed_calls fault ≡ 0 = ap failed_calls barred.0 in
          let same : clock (states new.disk) + log_left new.job ≡ clock (states mid.disk) + log_left mid.job =
          ap (λ (p : PenOf D). clock (states p.disk) + log_left p.job) barred.2 in
          omega arith)
      | inr failed ↦ (
          let before = so_far_time in
          let one : failed_calls fault ≡ 1 = ap failed_calls failed.3 in
          let due : calls_due mid.broken mid.job ≡ 1 = ap (λ b. calls_due b mid.job) failed.1 ∙ ap (calls_due false) failed.2 in
          let same : log_left new.job ≡ log_left mid.job = ap log_left failed.4.job_same in
          omega arith)
    ]

    -- ---- with no call left

    pub ended_settled : (tick : Ticked) → (tick ≡ ticks.Step → ⊥) → IsTicked mid new tick → IsLogSettled old new
    ended_settled ticks.Idle other ticked = idle_settled ticked
    ended_settled ticks.Step other ticked = absurd (other refl)
    ended_settled ticks.Done other ticked = done_settled ticked

    pub ended_file : (tick : Ticked) → (tick ≡ ticks.Step → ⊥) → keeps mid.disk → IsTicked mid new tick
        → FileTicked mid new tick → new.vector ≡ vector_after old
    ended_file ticks.Idle other model ticked file = idle_file ticked
    ended_file ticks.Step other model ticked file = absurd (other refl)
    ended_file ticks.Done other model ticked file = done_file model ticked file

    pub ended_frames : (tick : Ticked) → (tick ≡ ticks.Step → ⊥) → keeps mid.disk → IsTicked mid new tick
        → FileTicked mid new tick → new.frames ≡ frames_after old
    ended_frames ticks.Idle other model ticked file = idle_frames ticked
    ended_frames ticks.Step other model ticked file = absurd (other refl)
    ended_frames ticks.Done other model ticked file = done_frames model ticked file

    pub ended_time : (tick : Ticked) → (tick ≡ ticks.Step → ⊥) → IsTicked mid new tick → mid.broken ≡ false
        → clock (states new.disk) ≡ clock (states mid.disk) + calls_due mid.broken mid.job
        → clock (states new.disk) ≡ clock (states old.disk) + log_left old.job
    ended_time ticks.Idle other ticked whole time = idle_time ticked
    ended_time ticks.Step other ticked whole time = absurd (other refl)
    ended_time ticks.Done other ticked whole time = done_time ticked whole time

-- a call behind which more are left
pub log_left-step : {D : Type 0} (old new : PenOf D) → IsTicked old new ticks.Step → log_left new.job < log_left old.job
log_left-step old new ticked =
    let left : log_left old.job ≡ steps_left ticked.0.step = ap log_left ticked.1 in
    let then : log_left new.job ≡ steps_left ticked.2.0 = ap log_left ticked.2.2 in
    let less = steps_left-after ticked.0.step ticked.2.0 ticked.2.1 in
    omega arith
