-- What is known of a pen's disk between two calls, and what a call of the log leaves of the bytes and the counts.
use Rattle.std.proofs.Common.{◌≡◌, ℕ, ◌+◌, ◌≤◌, ◌<◌, ◌⊎◌, inl, ◌^◌, true, List, [], ◌∷◌, length, sum, None, refl, sym, ap, subst, ◌∙◌, arith}
use Rattle.std.proofs.lemmas.Bool.{ltb-false, or_parts}
use Rattle.std.specs.Prelude.{nat_lt}
use Rattle.disk_core.specs.State.{State, overlay}
use Rattle.disk_core.proofs.ImageLemmas.{length-overlay, get_or-overlay}
use Rattle.disk_core.specs.Calls.{bytes_of}
use Rattle.disk_core.specs.Moments.{LeavesOnly}
use Rattle.disk_core.proofs.JoinedMoments.{LeavesOnly-start}
use Rattle.segment_core.specs.declared.tally.Tally.{Tally}
use Rattle.segment_core.specs.Frame.{Frame, Group, Change, Shrink, frame_text}
use Rattle.segment_core.specs.Frame as kinds
use Rattle.segment_core.specs.Tally.{after, MayFollow}
use Rattle.pen_core.specs.declared.step.PenStep.{PenStep}
use Rattle.pen_core.specs.declared.step.PenStep.TheVariants.{Body, BodySync, Gate, GateSync}
use Rattle.pen_core.specs.Step.{step_after, body_of, Calls}
use Rattle.pen_core.specs.Held.{IsBeingFolded}
use Rattle.pen_core.specs.PenLog.{PenLog, frames_read, vector_read}
use Rattle.pen_core.specs.declared.stage.FoldStage.{FoldStage}
use Rattle.pen_core.specs.declared.stage.FoldStage.TheVariants.{Home, Sync, Ready, Filed}
use Rattle.pen_core.specs.declared.stage.FoldStage.TheVariants as stages
use Rattle.pen_core.specs.PenOf.{FoldOf}
use Rattle.pen_core.specs.InHand.{in_stage, left_of}
use Rattle.pen_core.specs.Fields.{log_of, seen_as, IsSoundPen}
use Rattle.pen_core.specs.declared.pen.Pen.TheInside.{Inside}
use Rattle.pen_core.specs.Pen.{MayOpen, MayBeOpening, IsBrokenBy, open_count, fold_count, IsKept}
use Rattle.pen_core.specs.Inside.{job_in}
use Rattle.pen_core.proofs.Folds.{LaidAlike}
use Rattle.pen_core.proofs.Pens.{held_size, told_pending}

-- ---- at rest

-- what a fold is seen to count whose homes may be pending
fold_count_is : (stage : FoldStage) (fold : FoldOf) → fold.stage ≡ stage → fold_count (in_stage stage fold) ≡ open_count stage fold.count
fold_count_is stages.None fold at = refl
fold_count_is (Home n) fold at = ap (λ st. open_count st fold.count) at
fold_count_is Sync fold at = ap (λ st. open_count st fold.count) at
fold_count_is Ready fold at = ap (λ st. open_count st fold.count) at
fold_count_is Filed fold at = ap (λ st. open_count st fold.count) at

module _ {D : Type 0} {keeps : D → Type 0} {states : D → List State} {pen : Inside D} (sound : IsSoundPen keeps states pen) (model : keeps pen.disk) where
  pub sound_kept : IsKept (states pen.disk) (seen_as states pen)
  sound_kept =
      let knows = sound.job.knows model in
      let seen : FoldOf = record { count = pen.fold.count; left = left_of pen.fold; stage = pen.fold.stage } in
      record {
        images_open = knows.images_open;
        pending_is_told = λ j is.
            subst
            (λ n. (pen.gate < j)
            ⊎ (((j ≡ pen.gate) × MayBeOpening (job_in (log_of pen)))
            ⊎ IsBeingFolded pen.shape n (frames_read (states pen.disk) (log_of pen)) j))
            (sym (fold_count_is pen.fold.stage seen refl)) (told_pending knows j is);
        gate_is = knows.gate_is;
        tally_is = knows.tally_is;
        size_is =
            ap (λ t. t.size) knows.tally_is
            ∙ held_size pen.shape (frames_read (states pen.disk) (log_of pen)) (vector_read (states pen.disk) (log_of pen))
            (bytes_of (states pen.disk)) knows.file.holds;
      }

  -- where no call is made
  pub sound_idle : LeavesOnly (states pen.disk) (states pen.disk) (MayOpen (seen_as states pen))
  sound_idle = LeavesOnly-start (states pen.disk) _ (sound.job.knows model).images_open

-- a call has failed
pub broken_seen : {D : Type 0} (states : D → List State) (pen : Inside D) (new : D)
    → IsBrokenBy (seen_as states pen) (seen_as states (record pen { disk = new; broken = true }))
broken_seen states pen new = record {
  broken = refl;
  job_same = refl;
  counts_same = record {
    shape_same = refl;
    fold_same = refl;
    tally_same = refl;
    gate_same = refl;
    room_same = refl;
    places_same = refl;
  };
}

-- ---- the counts behind a frame

pub after_size : (tally : Tally) (frame : Frame) → tally.size ≤ 2 ^ 32 → MayFollow tally frame → (after tally frame).size ≤ 2 ^ 32
after_size tally (Group lengths bytes) le may = ltb-false (2 ^ 32) (tally.size + sum lengths) may.short
after_size tally (Change runs bytes) le may = le
after_size tally (Shrink n) le may = let below = ltb-false tally.size n may.inside in omega arith
after_size tally (kinds.Fold count) le may = le

pub after_changes : (tally : Tally) (frame : Frame) → (after tally frame).changes ≤ tally.changes + 1
after_changes tally (Group lengths bytes) = omega arith
after_changes tally (Change runs bytes) = omega arith
after_changes tally (Shrink n) = omega arith
after_changes tally (kinds.Fold count) = omega arith

pub after_folded : (tally : Tally) (frame : Frame) → tally.folded ≤ tally.changes → MayFollow tally frame
    → (after tally frame).folded ≤ (after tally frame).changes
after_folded tally (Group lengths bytes) le may = le
after_folded tally (Change runs bytes) le may = omega arith
after_folded tally (Shrink n) le may = le
after_folded tally (kinds.Fold count) le may = ltb-false tally.changes count ((or_parts (nat_lt count tally.folded) (nat_lt tally.changes count) may.counted).1)

-- ---- a call

-- a write at a place or past it leaves the bytes below
laid_past : (p at : ℕ) (old bytes : List ℕ) → p ≤ at → at ≤ length old → LaidAlike p old (overlay old at bytes)
laid_past p at old bytes le inside = record {
  long = omega arith;
  long_too = omega (arith, length-overlay old at bytes inside);
  each = λ j lt. sym (get_or-overlay old at bytes j inside (omega arith) (inl (omega arith)));
}

pub calls_alike : (step : PenStep) (p : ℕ) (bytes : List ℕ) (old new : List State) → p < length (bytes_of old)
    → Calls step p bytes old new → LaidAlike p (bytes_of old) (bytes_of new)
calls_alike Body p bytes old new lt call =
    subst (LaidAlike p (bytes_of old)) (sym (ap bytes_of call))
    (laid_past p (p + 1) (bytes_of old) (body_of bytes) (omega arith) (omega arith))
calls_alike BodySync p bytes old new lt call =
    subst (LaidAlike p (bytes_of old)) (sym (ap bytes_of call))
    (record { long = omega arith; long_too = omega arith; each = λ j below. refl })
calls_alike Gate p bytes old new lt call =
    subst (LaidAlike p (bytes_of old)) (sym (ap bytes_of call))
    (laid_past p p (bytes_of old) (1 ∷ []) (omega arith) (omega arith))
calls_alike GateSync p bytes old new lt call =
    subst (LaidAlike p (bytes_of old)) (sym (ap bytes_of call))
    (record { long = omega arith; long_too = omega arith; each = λ j below. refl })

pub last_step : (step : PenStep) → step_after step ≡ None → step ≡ GateSync
last_step Body is = absurd cc
last_step BodySync is = absurd cc
last_step Gate is = absurd cc
last_step GateSync is = refl

pub record FileStays (states new : List State) (log : PenLog) : Type 0 where
  pub frames_same : frames_read new log ≡ frames_read states log
  pub vector_same : vector_read new log ≡ vector_read states log
