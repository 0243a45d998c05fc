-- A pen that goes on with a file, group by group.
use Rattle.std.proofs.Common.{◌≡◌, ◌⊎◌, ℕ, List, [], ◌++◌, length, Option, Some, None, Result, Ok, Err, inl, inr, sym, ap, subst, ◌∙◌, arith}
use Rattle.std.specs.Prelude.{MatchOption, MatchResult, OnOk, OnErr, IfErr}
use Rattle.std.proofs.lemmas.List.{append_assoc, append-nil, length-append, take-append-le}
use Rattle.std.proofs.Math.Seq.{take-length}
use Rattle.record_core.specs.Bytes.{Encoding}
use Rattle.disk_core.specs.State.{State, now, IsImage}
use Rattle.disk_core.specs.Calls.{bytes_of}
use Rattle.disk_core.specs.Moments.{LeavesOnly}
use Rattle.disk_core.proofs.JoinedMoments.{LeavesOnly-join, LeavesOnly-weaker}
use Rattle.segment_core.specs.Raw.{AreCellsOf}
use Rattle.segment_core.specs.Written.{joined, group_frame}
use Rattle.segment_core.proofs.Written.{joined-append}
use Rattle.pen_core.specs.declared.fault.PenFault.{PenFault}
use Rattle.pen_core.specs.PenOf.{PenOf, JobOf}
use Rattle.pen_core.specs.Pen.{BeginsFrame, CountsDone, FileSame, IsUnchanged, MayOpen, failed_calls, vector_after, vector_with}
use Rattle.pen_core.specs.Settled.{IsLogFault, IsLogSettled}
use Rattle.pen_core.specs.Typed.{OpensTo}
use Rattle.pen_core.proofs.Typed.{MayOpen_typed, vector_after-none}
use Rattle.files_core.specs.Opened.{LeavesBeforeOr}
use Rattle.files_core.proofs.Opened.{opened_alone, opened_list}
use Rattle.pen_core.specs.Opening.{IsOpened, OnlySyncs}
use Rattle.load_core.specs.Groups.{IsPenOver, IsReadyPen, OpensToFront, begun_by}

-- ---- fronts of growths

module _ {R : Type 0} (form : Encoding R) (was : List R) (image : List ℕ) where
  pub front_all : (growths : List (List R)) → OpensTo form image (was ++ joined growths) → OpensToFront form was growths image
  front_all growths opens = record {
    count = length growths;
    known = omega arith;
    opens = subst (λ gs. OpensTo form image (was ++ joined gs)) (sym (take-length growths)) opens;
  }

  -- one that has the first of some has the first of these and more
  pub front_more : (one two : List (List R)) → OpensToFront form was one image → OpensToFront form was (one ++ two) image
  front_more one two front = record {
    count = front.count;
    known = omega (arith, length-append one two, front.known);
    opens = subst (λ gs. OpensTo form image (was ++ joined gs)) (sym (take-append-le front.count one two front.known)) front.opens;
  }

pub joined_on : {R : Type 0} (was : List R) (one two : List (List R)) → (was ++ joined one) ++ joined two ≡ was ++ joined (one ++ two)
joined_on was one two = append_assoc was (joined one) (joined two) ∙ ap (λ (rs : List _). was ++ rs) (sym (joined-append one two))

-- ---- one group

module _ {R D : Type 0} (form : Encoding R) (states : D → List State) (disk : D) (old : PenOf D) (made : List (List R)) where
  -- it wasn't begun
  pub over_unchanged : (new : PenOf D) → IsReadyPen form.width old → IsUnchanged old new → IsPenOver form states disk old made [] → IsPenOver form states disk new made []
  over_unchanged new ready same over = record {
    was = over.was;
    file = over.file;
    cells = subst (λ cells. AreCellsOf form cells (over.was ++ joined made)) (sym same.file_same.vector_same) over.cells;
    next = subst (λ cells. AreCellsOf form cells (over.was ++ joined (made ++ []))) (sym after) over.next;
    images = subst (λ d. LeavesBeforeOr (states disk) (states d) (OpensToFront form over.was (made ++ []))) (sym same.disk_same) over.images;
  }
    where
      after : vector_after new ≡ vector_after old
      after = vector_after-none new (same.job_same ∙ ready.no_job) ∙ same.file_same.vector_same ∙ sym (vector_after-none old ready.no_job)

  module _ (group : List (List R)) (mid new : PenOf D) (ready : IsReadyPen form.width old) (begun : BeginsFrame (group_frame form group) old mid)
      (next : (list : List R) → AreCellsOf form old.vector list → AreCellsOf form (vector_after mid) (list ++ joined group))
      (leaves : LeavesOnly (states mid.disk) (states new.disk) (MayOpen mid)) (over : IsPenOver form states disk old made []) where
    cells_mid : AreCellsOf form mid.vector (over.was ++ joined made)
    cells_mid = subst (λ cells. AreCellsOf form cells (over.was ++ joined made)) (sym begun.file_same.vector_same) over.cells

    cells_after : AreCellsOf form (vector_after mid) (over.was ++ joined (made ++ group))
    cells_after = subst (AreCellsOf form (vector_after mid)) (joined_on over.was made group) (next (over.was ++ joined made) over.cells)

    either : (image : List ℕ) → MayOpen mid image → OpensToFront form over.was (made ++ group) image
    either image opens =
        elim (MayOpen_typed form mid image (over.was ++ joined made) (over.was ++ joined (made ++ group)) (ready.width_is ∙ sym (ap (λ s. s.width) begun.shape_same)) cells_mid cells_after opens) [
          | inl first ↦ front_more form over.was image made group (front_all form over.was image made first)
          | inr all ↦ front_all form over.was image (made ++ group) all
        ]

    images : LeavesBeforeOr (states disk) (states new.disk) (OpensToFront form over.was (made ++ group))
    images =
        LeavesOnly-join (states disk) (states old.disk) (states new.disk) (λ image. IsImage (now (states disk)) image ⊎ OpensToFront form over.was (made ++ group) image)
        (LeavesOnly-weaker (states disk) (states old.disk) (λ image. IsImage (now (states disk)) image ⊎ OpensToFront form over.was (made ++ []) image)
        (λ image. IsImage (now (states disk)) image ⊎ OpensToFront form over.was (made ++ group) image) before over.images)
        (LeavesOnly-weaker (states old.disk) (states new.disk) (MayOpen mid) (λ image. IsImage (now (states disk)) image ⊎ OpensToFront form over.was (made ++ group) image)
        (λ image opens. inr (either image opens)) (subst (λ d. LeavesOnly (states d) (states new.disk) (MayOpen mid)) begun.disk_same leaves))
      where
        before : (image : List ℕ) → IsImage (now (states disk)) image ⊎ OpensToFront form over.was (made ++ []) image
            → IsImage (now (states disk)) image ⊎ OpensToFront form over.was (made ++ group) image
        before image (inl was) = inl was
        before image (inr front) = inr (front_more form over.was image made group (subst (λ gs. OpensToFront form over.was gs image) (append-nil made) front))

    job_settled : IsLogSettled mid new → new.job ≡ None
    job_settled settled = (subst (λ (o : Option JobOf). MatchOption o (new ≡ mid) (λ job. CountsDone job.frame mid new)) begun.job_is settled).job_done

    -- all its calls succeeded
    over_settled : new.vector ≡ vector_after mid → IsLogSettled mid new → IsPenOver form states disk new (made ++ group) []
    over_settled file settled = record {
      was = over.was;
      file = over.file;
      cells = subst (λ cells. AreCellsOf form cells (over.was ++ joined (made ++ group))) (sym file) cells_after;
      next = subst (λ gs. AreCellsOf form (vector_after new) (over.was ++ joined gs)) (sym (append-nil (made ++ group)))
          (subst (λ cells. AreCellsOf form cells (over.was ++ joined (made ++ group))) (sym (vector_after-none new (job_settled settled) ∙ file)) cells_after);
      images = subst (λ gs. LeavesBeforeOr (states disk) (states new.disk) (OpensToFront form over.was gs)) (sym (append-nil (made ++ group))) images;
    }

    -- one of them failed
    over_stopped : (fault : PenFault) → FileSame mid new → IsLogFault mid new fault → IsPenOver form states disk new made (begun_by (failed_calls fault) group)
    over_stopped fault same (inl barred) = let yes = barred.1 in let whole = begun.broken_same ∙ ready.whole in absurd cc
    over_stopped fault same (inr at) =
        let one : failed_calls fault ≡ 1 = ap failed_calls at.4 in
        let frame = subst (λ (o : Option JobOf). o ≡ Some at.0) begun.job_is at.3 in
        let job : vector_after new ≡ vector_after mid =
        ap (λ s. vector_with s new.vector new.job) at.5.counts_same.shape_same ∙ ap (λ v. vector_with mid.shape v new.job) same.vector_same
        ∙ ap (vector_with mid.shape mid.vector) at.5.job_is ∙ sym (ap (vector_with mid.shape mid.vector) at.3) in
        subst (λ n. IsPenOver form states disk new made (begun_by n group)) (sym one) (record {
          was = over.was;
          file = over.file;
          cells = subst (λ cells. AreCellsOf form cells (over.was ++ joined made)) (sym same.vector_same) cells_mid;
          next = subst (λ cells. AreCellsOf form cells (over.was ++ joined (made ++ group))) (sym job) cells_after;
          images = images;
        })

    pub over_ended : (result : Result (Unit {0}) PenFault) → OnOk result (IsLogSettled mid new) → OnOk result (new.vector ≡ vector_after mid) → OnErr result (FileSame mid new)
        → IfErr result (IsLogFault mid new)
        → MatchResult result (λ _. IsPenOver form states disk new (made ++ group) []) (λ fault. IsPenOver form states disk new made (begun_by (failed_calls fault) group))
    over_ended (Ok all) settled file same why = over_settled file settled
    over_ended (Err fault) settled file same why = over_stopped fault same why

-- it was opened
pub over_opened : {R D : Type 0} (form : Encoding R) (states : D → List State) (disk : D) (pen : PenOf D) (records : List R) → pen.job ≡ None
    → IsOpened form (bytes_of (states disk)) pen records → OnlySyncs (states disk) (states pen.disk) → IsPenOver form states disk pen [] []
over_opened form states disk pen records none opened syncs = record {
  was = records;
  file = opened_list form (bytes_of (states disk)) pen records opened;
  cells = subst (AreCellsOf form pen.vector) (sym (append-nil records)) opened.cells_are;
  next = subst (λ cells. AreCellsOf form cells (records ++ [])) (sym (vector_after-none pen none)) (subst (AreCellsOf form pen.vector) (sym (append-nil records)) opened.cells_are);
  images = opened_alone (states disk) (states pen.disk) (OpensToFront form records []) syncs;
}
