-- The last tick of a job: its frame stands in the file, and a fold ends with its own.
use Rattle.std.proofs.Common.{◌≡◌, ℕ, ◌+◌, ◌-◌, ◌<◌, List, length, Option, Some, None, inl, inr, refl, sym, ap, subst, ◌∙◌}
use Rattle.std.proofs.lemmas.Option.{same_Some}
use Rattle.disk_core.specs.State.{State}
use Rattle.segment_core.specs.Frame.{Frame, Group, Change, Shrink}
use Rattle.segment_core.specs.Frame as kinds
use Rattle.segment_core.specs.Found.{home_among, AreInTurn}
use Rattle.segment_core.specs.Raw.{after_frame}
use Rattle.pen_core.specs.declared.pen.Pen.TheInside.{Inside}
use Rattle.pen_core.specs.declared.stage.FoldStage.TheVariants.{Filed}
use Rattle.pen_core.specs.declared.step.PenStep.{PenStep}
use Rattle.pen_core.specs.Step.{step_after, Calls}
use Rattle.pen_core.specs.InHand.{fold_of, frame_in_hand, stage_ended, live_after, HasFold}
use Rattle.pen_core.specs.Inside.{IsJob, IsMaybeJob, IsPen}
use Rattle.pen_core.specs.Listed.{HasLists}
use Rattle.pen_core.specs.PenOf.{FoldOf}
use Rattle.pen_core.specs.Fields.{log_of, IsSoundPen}
use Rattle.pen_core.specs.PenLog.{PenLog, vector_read, job_over}
use Rattle.pen_core.specs.Pen.{open_count, fold_behind}
use Rattle.pen_core.specs.Vectors.{frame_at}
use Rattle.pen_core.proofs.AtRest.{pen_same}
use Rattle.pen_core.proofs.InHand.{no_fold_at, no_fold_seen, room_of, filed_at, fold_same, fold_done, is_filed, live_kept, open_ended}
use Rattle.pen_core.proofs.Listed.{listed_same, listed_done, listed_folded}
use Rattle.pen_core.proofs.LogCall.{LogCall, tally_now, gate_moved, settles_now, holds_now, holds_next, more_frames, vector_then, done_job}

-- What the last tick of a job knows: the call has succeeded, the homes were cut, and a fold whose frame was the job has
-- ended.
pub record LastCall {D : Type 0} {keeps : D → Type 0} {states : D → List State} {pen : Inside D} {new : D} {step : PenStep}
    (tick : LogCall keeps states pen new step) (then : Inside D) : Type 0 where
  pub call : keeps pen.disk → Calls step pen.gate tick.given (states pen.disk) (states new)
  pub moved : then.gate ≡ pen.gate + (length tick.given - 1)
  pub last : step_after step ≡ None
  pub turn : AreInTurn 0 then.homes.homes.items pen.next.size
  pub each : (width i : ℕ) → i < pen.next.size → home_among width then.homes.homes.items i ≡ home_among width pen.homes.homes.items i
  pub all : then.live ≡ length then.homes.live.items
  pub ended : then.fold.stage ≡ stage_ended pen.fold.stage
  pub left : then.homes.live.items ≡ live_after pen.fold.stage pen.fold.runs pen.homes.live.items
  pub same : (pen.fold.stage ≡ Filed → ⊥) → then.fold ≡ pen.fold

module _ {D : Type 0} {keeps : D → Type 0} {states : D → List State} {pen : Inside D} {new : D} {step : PenStep} {tick : LogCall keeps states pen new step}
    {then : Inside D} (end : LastCall tick then) where
  abbrev frame : Frame
  frame = frame_at pen.shape pen.bytes.items

  in_hand : frame_in_hand pen.shape pen.bytes.items pen.step ≡ Some frame
  in_hand = ap (frame_in_hand pen.shape pen.bytes.items) tick.is

  job : IsJob pen.shape pen.gate pen.tally pen.next pen.bytes.items
  job = subst (λ due. IsMaybeJob pen.shape pen.gate pen.tally pen.next pen.bytes.items due) tick.is tick.sound.job.job

  -- the frame of a filed fold
  folds : pen.fold.stage ≡ Filed → frame ≡ kinds.Fold pen.fold.count
  folds filed =
      same_Some frame (kinds.Fold pen.fold.count)
      (sym in_hand ∙ filed_at pen.shape pen.gate pen.tally pen.bytes.items pen.step pen.fold tick.sound.fold.counts filed)

  no_fold : (pen.fold.stage ≡ Filed → ⊥) → (count : ℕ) → frame ≡ kinds.Fold count → ⊥
  no_fold unfiled count at = unfiled (tick.sound.lists.filed count (in_hand ∙ ap (λ g. Some g) at)).0

  abbrev ended_log : PenLog
  ended_log = record (job_over (log_of pen) then.gate pen.next) { bytes = then.bytes.items }

  last_job : IsPen (open_count then.fold.stage then.fold.count) (keeps new) (states new) ended_log pen.next
  last_job =
      subst (λ n. IsPen n (keeps new) (states new) ended_log pen.next)
      (open_ended pen.fold then.fold end.ended end.same)
      (pen_same (done_job tick end.call then.gate end.moved end.last) refl then.bytes.items)

  last_lists : HasLists (keeps new) (states new) ended_log then.homes then.live then.fold
  last_lists =
      let further = gate_moved tick end.call then.gate end.moved end.last in
      let more = more_frames tick end.call then.gate end.moved end.last in
      let over : PenLog = job_over (log_of pen) then.gate pen.next in
      let made : HasLists (keeps new) (states new) over then.homes then.live then.fold =
      elim (is_filed pen.fold.stage) [
        | inl filed ↦ listed_folded tick.sound.lists step tick.is pen.next tick.sound.job.job (keeps new) (states new) then.gate then.homes then.live
            tick.sound.job.folded_counted further tick.back more end.turn end.each end.all then.fold filed (folds filed) (end.ended ∙ ap stage_ended filed)
            (end.left ∙ ap (λ stage. live_after stage pen.fold.runs pen.homes.live.items) filed)
        | inr unfiled ↦ subst
            (λ f. HasLists (keeps new) (states new) over then.homes then.live f)
            (sym (end.same unfiled))
            (listed_done tick.sound.lists step tick.is pen.next tick.sound.job.job (keeps new) (states new) then.gate then.homes then.live
            tick.sound.job.folded_counted further tick.back more end.turn end.each end.all unfiled
            (λ held. (room_of pen.shape pen.gate pen.tally pen.bytes.items pen.step pen.fold pen.fold.stage tick.sound.fold.counts held unfiled).upto)
            (end.left ∙ live_kept pen.fold.stage pen.fold.runs pen.homes.live.items unfiled))
      ] in
      listed_same made refl then.bytes.items then.homes refl refl

  last_fold : HasFold (keeps new) (states new) ended_log then.fold
  last_fold = elim (is_filed pen.fold.stage) [
    | inl filed ↦ no_fold_at (keeps new) (states new) ended_log then.fold (end.ended ∙ ap stage_ended filed)
    | inr unfiled ↦ (
        let done : HasFold (keeps new) (states new) (job_over (log_of pen) then.gate pen.next) pen.fold =
        fold_done tick.sound.fold tick.back (states new) then.gate step tick.is pen.next job.may_follow job.next_is
        (end.moved ∙ ap (λ b. pen.gate + (length b - 1)) tick.value) unfiled (no_fold unfiled)
        (after_frame pen.shape.width (vector_read (states pen.disk) (log_of pen)) frame)
        (tally_now tick) (holds_now tick end.call then.gate end.moved end.last) (holds_next tick end.call then.gate end.moved end.last)
        (settles_now tick end.call then.gate end.moved end.last) (more_frames tick end.call then.gate end.moved end.last)
        (vector_then tick end.call then.gate end.moved end.last) in
        subst (λ f. HasFold (keeps new) (states new) ended_log f) (sym (end.same unfiled))
        (fold_same done refl then.bytes.items))
  ]

  -- the job is done
  pub log_last : IsSoundPen keeps states (record pen {
    disk = new;
    gate = then.gate;
    tally = pen.next;
    bytes = then.bytes;
    step = None;
    homes = then.homes;
    live = then.live;
    fold = then.fold;
  })
  log_last = record { job = last_job; lists = last_lists; fold = last_fold }

  behind : (f : Frame) → ((count : ℕ) → f ≡ kinds.Fold count → ⊥) → (seen : Option FoldOf) → fold_behind f seen ≡ seen
  behind (Group lengths bytes) other seen = refl
  behind (Change runs bytes) other seen = refl
  behind (Shrink n) other seen = refl
  behind (kinds.Fold count) other seen = absurd (other count refl)

  pub fold_seen : fold_of then.fold ≡ fold_behind frame (fold_of pen.fold)
  fold_seen = elim (is_filed pen.fold.stage) [
    | inl filed ↦ no_fold_seen then.fold (end.ended ∙ ap stage_ended filed) ∙ sym (ap (λ f. fold_behind f (fold_of pen.fold)) (folds filed))
    | inr unfiled ↦ ap fold_of (end.same unfiled) ∙ sym (behind frame (no_fold unfiled) (fold_of pen.fold))
  ]

  -- a job whose frame is no then.folds leaves the fold
  pub other_unfiled : ((count : ℕ) → frame ≡ kinds.Fold count → ⊥) → pen.fold.stage ≡ Filed → ⊥
  other_unfiled other filed = other pen.fold.count (folds filed)
