-- What a crash leaves of a pen's file opens to, as records, where its vector is told as records.
use Rattle.std.proofs.Common.{◌≡◌, ◌⊎◌, ℕ, ◌<◌, ◌^◌, List, Option, Some, None, sym, ap, subst, ◌∙◌, inl, inr}
use Rattle.std.specs.Prelude.{IfSome}
use Rattle.record_core.specs.Bytes.{Encoding}
use Rattle.segment_core.specs.declared.format.Shape.{Shape}
use Rattle.segment_core.specs.Frame.{Frame}
use Rattle.segment_core.specs.Vector.{HasVector}
use Rattle.segment_core.specs.Raw.{raw, after_frame, AreCellsOf}
use Rattle.segment_core.proofs.OneVector.{same_vector}
use Rattle.segment_core.proofs.Raw.{IsVectorOf_typed}
use Rattle.segment_core.proofs.ReadAs.{AreCellsOf-read, AreCellsOf_same}
use Rattle.pen_core.specs.Held.{Opens}
use Rattle.pen_core.specs.Vectors.{frames_with}
use Rattle.pen_core.specs.PenOf.{PenOf, JobOf}
use Rattle.pen_core.specs.declared.stage.Ticked.TheVariants.{Step}
use Rattle.pen_core.specs.Pen.{OpensWith, MayOpen, IsTicked, FileSame, FileGains, vector_with, vector_after}
use Rattle.pen_core.specs.Typed.{OpensTo}

-- ---- the vector behind the job

-- with no job in hand it is the pen's
pub vector_after-none : {D : Type 0} (pen : PenOf D) → pen.job ≡ None → vector_after pen ≡ pen.vector
vector_after-none pen none = ap (vector_with pen.shape pen.vector) none

-- once the job is done it is the pen's
pub vector_after-done : {D : Type 0} (old new : PenOf D) (job : JobOf) → old.job ≡ Some job
    → IfSome old.job (λ job. FileGains job.frame old new) → new.vector ≡ vector_after old
vector_after-done old new job is file = at old.job is file
  where
    at : (o : Option JobOf) → o ≡ Some job → IfSome o (λ job. FileGains job.frame old new) → new.vector ≡ vector_with old.shape old.vector o
    at None is file = absurd cc
    at (Some done) is gains = gains.vector_is

-- it stands while the file, and the job's frame, stand
pub vector_after-same : {D : Type 0} (old new : PenOf D) → new.shape ≡ old.shape → FileSame old new → new.job ≡ old.job
    → vector_after new ≡ vector_after old
vector_after-same old new shape file job =
    ap (λ s. vector_with s new.vector new.job) shape ∙ ap (λ v. vector_with old.shape v new.job) file.vector_same
    ∙ ap (vector_with old.shape old.vector) job

-- also at a step of the job
pub vector_after-step : {D : Type 0} (old new : PenOf D) → IsTicked old new Step → FileSame old new → vector_after new ≡ vector_after old
vector_after-step old new ticked file =
    let shape = ticked.3.shape_same in
    ap (λ s. vector_with s new.vector new.job) shape ∙ ap (λ v. vector_with old.shape v new.job) file.vector_same
    ∙ ap (vector_with old.shape old.vector) ticked.2.2 ∙ sym (ap (vector_with old.shape old.vector) ticked.1)

module _ {R : Type 0} (form : Encoding R) where
  -- ---- what an image opens to

  pub Opens_typed : (shape : Shape) (frames : List Frame) (vector : List (List ℕ)) (image : List ℕ) (records : List R)
      → form.width ≡ shape.width → AreCellsOf form vector records → Opens shape frames vector image
      → OpensTo form image records
  Opens_typed shape frames vector image records width are opens =
      let opened : HasVector shape.format (raw form.width) image opens.found vector =
      subst (λ w. HasVector shape.format (raw w) image opens.found vector) (sym width) opens.opened in
      record {
        format = shape.format;
        frames = opens.found;
        vector =
            record {
              framed = opened.framed;
              read = IsVectorOf_typed shape.format form image opens.found vector records opened.read
                  (AreCellsOf-read form vector records are);
            };
      }

  -- one image opens to one list
  pub OpensTo_same : (image : List ℕ) (a b : List R) → form.width < 2 ^ 16 → OpensTo form image a → OpensTo form image b → a ≡ b
  OpensTo_same image a b small to_a to_b = same_vector to_a.format to_b.format form image to_a.frames to_b.frames a b small to_a.vector to_b.vector

  -- ---- a pen's images

  opens_with : (shape : Shape) (frames : List Frame) (vector : List (List ℕ)) (job : Option JobOf) (image : List ℕ)
      (before after : List R)
      → form.width ≡ shape.width → AreCellsOf form vector before → AreCellsOf form (vector_with shape vector job) after
      → OpensWith shape frames vector job image
      → OpensTo form image before ⊎ OpensTo form image after
  opens_with shape frames vector None image before after width was will opens = inl (Opens_typed shape frames vector image before width was opens)
  opens_with shape frames vector (Some job) image before after width was will opens = elim opens [
    | inl old ↦ inl (Opens_typed shape frames vector image before width was old)
    | inr new ↦ inr (Opens_typed shape (frames_with frames job.frame) (after_frame shape.width vector job.frame) image after width will new)
  ]

  -- each opens to the records of before, or to those behind the job
  pub MayOpen_typed : {D : Type 0} (pen : PenOf D) (image : List ℕ) (before after : List R) → form.width ≡ pen.shape.width
      → AreCellsOf form pen.vector before → AreCellsOf form (vector_after pen) after → MayOpen pen image
      → OpensTo form image before ⊎ OpensTo form image after
  MayOpen_typed pen image before after width was will opens = opens_with pen.shape pen.frames pen.vector pen.job image before after width was will opens

  -- with no job in hand these are the same
  pub same_typed : {D : Type 0} (pen : PenOf D) (before after : List R) → pen.job ≡ None → AreCellsOf form pen.vector before
      → AreCellsOf form (vector_after pen) after → before ≡ after
  same_typed pen before after none was will =
      AreCellsOf_same form pen.vector before after was
      (subst (λ cells. AreCellsOf form cells after) (vector_after-none pen none) will)

  pub MayOpen_rest : {D : Type 0} (pen : PenOf D) (image : List ℕ) (records : List R) → form.width ≡ pen.shape.width
      → pen.job ≡ None → AreCellsOf form pen.vector records → MayOpen pen image → OpensTo form image records
  MayOpen_rest pen image records width none are opens =
      Opens_typed pen.shape pen.frames pen.vector image records width are (subst (λ job. OpensWith pen.shape pen.frames pen.vector job image) none opens)
