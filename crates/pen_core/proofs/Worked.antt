-- What the definitions that stand only in conclusions say of a pen: which places aren't pending, what an image opens to,
-- and what an unchanged pen is.
use Rattle.std.proofs.Common.{◌∙◌, ◌≡◌, ℕ, ◌<◌, ◌⊎◌, inl, inr, List, length, Some, None, ap, subst, arith}
use Rattle.segment_core.specs.Frame.{Frame}
use Rattle.segment_core.specs.Raw.{after_frame}
use Rattle.pen_core.specs.declared.step.PenStep.TheVariants as steps
use Rattle.pen_core.specs.declared.stage.FoldStage.TheVariants as folds
use Rattle.pen_core.specs.Held.{Opens, IsBeingFolded}
use Rattle.pen_core.specs.Vectors.{frames_with}
use Rattle.pen_core.specs.PenOf.{PenOf, JobOf}
use Rattle.pen_core.specs.Pen.{MayOpen, MayBeOpening, MayBePending, OpensWith, CountsSame, IsUnchanged, BeginsFrame, BeginsFold, fold_count}
use Rattle.pen_core.proofs.Begun.{nothing_folded}

-- ---- what may be pending, where no fold is in hand

module _ {D : Type 0} (pen : PenOf D) (no_fold : pen.fold ≡ None) where
  not_folded : (j : ℕ) → IsBeingFolded pen.shape (fold_count pen.fold) pen.frames j → ⊥
  not_folded j is = nothing_folded pen.shape pen.frames j (subst (λ n. IsBeingFolded pen.shape n pen.frames j) (ap fold_count no_fold) is)

  nothing_below : (j : ℕ) → j < pen.gate → MayBePending pen j → ⊥
  nothing_below j below may = elim may [
    | inl past ↦ absurd (omega arith)
    | inr (inl at) ↦ absurd (omega (arith, at.0))
    | inr (inr folded) ↦ not_folded j folded
  ]

  -- the gate, before its write
  gate_stays : (MayBeOpening pen.job → ⊥) → MayBePending pen pen.gate → ⊥
  gate_stays shut may = elim may [
    | inl past ↦ absurd (omega arith)
    | inr (inl at) ↦ shut at.1
    | inr (inr folded) ↦ not_folded pen.gate folded
  ]

shut_at_rest : MayBeOpening None → ⊥
shut_at_rest is = is

shut_at_body : (frame : Frame) → MayBeOpening (Some (record { frame = frame; step = steps.Body })) → ⊥
shut_at_body frame is = elim is [ inl never ↦ absurd cc | inr never ↦ absurd cc ]

shut_at_sync : (frame : Frame) → MayBeOpening (Some (record { frame = frame; step = steps.BodySync })) → ⊥
shut_at_sync frame is = elim is [ inl never ↦ absurd cc | inr never ↦ absurd cc ]

-- ---- what an image opens to

module _ {D : Type 0} (pen : PenOf D) (image : List ℕ) (may : MayOpen pen image) where
  opens_at_rest : pen.job ≡ None → Opens pen.shape pen.frames pen.vector image
  opens_at_rest idle = subst (λ job. OpensWith pen.shape pen.frames pen.vector job image) idle may

  opens_with_its_own : (job : JobOf) → pen.job ≡ Some job
      → Opens pen.shape pen.frames pen.vector image
      ⊎ Opens pen.shape (frames_with pen.frames job.frame) (after_frame pen.shape.width pen.vector job.frame) image
  opens_with_its_own job is = subst (λ o. OpensWith pen.shape pen.frames pen.vector o image) is may

-- ---- what stays

-- all but the memory
pub unchanged_pen : {D : Type 0} (old new : PenOf D) → IsUnchanged old new → new ≡ record old { room = new.room; places = new.places }
unchanged_pen old new is =
    λ i. record {
      disk = is.disk_same i;
      shape = is.shape_same i;
      frames = is.file_same.frames_same i;
      vector = is.file_same.vector_same i;
      job = is.job_same i;
      fold = is.fold_same i;
      broken = is.broken_same i;
      tally = is.tally_same i;
      gate = is.gate_same i;
      room = new.room;
      places = new.places;
    }

-- all but the memory and the job
pub begun_pen : {D : Type 0} (frame : Frame) (old new : PenOf D) → BeginsFrame frame old new
    → new ≡ record old { job = Some (record { frame = frame; step = steps.Body }); room = new.room; places = new.places }
begun_pen frame old new is =
    λ i. record {
      disk = is.disk_same i;
      shape = is.shape_same i;
      frames = is.file_same.frames_same i;
      vector = is.file_same.vector_same i;
      job = is.job_is i;
      fold = is.fold_same i;
      broken = is.broken_same i;
      tally = is.tally_same i;
      gate = is.gate_same i;
      room = new.room;
      places = new.places;
    }

-- all but the fold
pub folding_pen : {D : Type 0} (old new : PenOf D) (is : BeginsFold old new)
    → new ≡ record old
    { fold = Some (record { count = old.tally.changes; left = is.left; stage = folds.Home (length is.left) }) }
folding_pen old new is =
    λ i. record {
      disk = is.disk_same i;
      shape = is.shape_same i;
      frames = is.file_same.frames_same i;
      vector = is.file_same.vector_same i;
      job = is.job_same i;
      fold = is.fold_is i;
      broken = is.broken_same i;
      tally = is.tally_same i;
      gate = is.gate_same i;
      room = is.room_same i;
      places = is.places_same i;
    }

-- what the pen counts
counts_stay : {D : Type 0} (old new : PenOf D) → CountsSame old new
    → new ≡ record new { shape = old.shape; fold = old.fold; tally = old.tally; gate = old.gate; room = old.room }
counts_stay old new is =
    ap (λ x. record new { shape = x }) is.shape_same
    ∙ ap (λ x. record new { shape = old.shape; fold = x }) is.fold_same
    ∙ ap (λ x. record new { shape = old.shape; fold = old.fold; tally = x }) is.tally_same
    ∙ ap (λ x. record new { shape = old.shape; fold = old.fold; tally = old.tally; gate = x }) is.gate_same
    ∙ ap (λ x. record new { shape = old.shape; fold = old.fold; tally = old.tally; gate = old.gate; room = x }) is.room_same
