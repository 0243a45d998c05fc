-- What holds of a flusher stands: behind a call of its pen or the begin of one, and whatever its pass learns or its mark tells.
use Rattle.std.proofs.Common.{◌≡◌, ℕ, ◌+◌, ◌≤◌, List, ◌++◌, length, take, Bool, true, false, None, Result, Ok, Err, IfOk, IfErr, inl, inr, refl, sym, ap, subst, ◌∙◌, arith}
use Rattle.std.proofs.lemmas.List.{length-take}
use Rattle.record_core.specs.Bytes.{Encoding}
use Rattle.record_core.specs.Limits.{record_limit}
use Rattle.disk_core.specs.State.{State}
use Rattle.disk_core.specs.Moments.{LeavesOnly, clock}
use Rattle.segment_core.specs.Raw.{AreCellsOf}
use Rattle.segment_core.specs.declared.tally.Tally.{Tally}
use Rattle.pen_core.specs.declared.fault.PenFault.{PenFault}
use Rattle.pen_core.specs.declared.stage.Ticked.TheVariants as ticks
use Rattle.pen_core.specs.declared.stage.HomeTicked.{HomeTicked}
use Rattle.pen_core.specs.declared.stage.HomeTicked.TheVariants as home_ticks
use Rattle.pen_core.specs.PenOf.{PenOf}
use Rattle.pen_core.specs.Pen.{MayOpen, IsTicked, IsTickFault, IsHomeTicked, IsHomeFault, IsUnchanged, IsFoldAnswer, vector_after, vector_with}
use Rattle.directory_core.specs.Chain.{total, grown_records, IsPrefix}
use Rattle.directory_core.specs.Known.{Known}
use Rattle.book_core.specs.Marks.{MarkEnd}
use Rattle.book_core.proofs.Owns.{take-begins}
use Rattle.flush_core.specs.Flusher.{FlusherOf, HasTold, IsFlusher, flusher_of, list_to, read_as, tally_with}
use Rattle.flush_core.proofs.Goes.{FlusherGoesOn-same}
use Rattle.flush_core.proofs.Kept.{kept, opening_kept}
use Rattle.flush_core.proofs.Told.{HasTold-calls, HasTold-later, HasTold-on, HasTold-set}

-- ---- pens

-- The counts are the same, and so is what the job in hand makes of them and of the vector.
pub record HandSame {D : Type 0} (old new : PenOf D) : Type 0 where
  pub shape_same : new.shape ≡ old.shape
  pub tally_same : new.tally ≡ old.tally
  pub idle_before : new.job ≡ None → old.job ≡ None
  pub size_then : (tally_with old.tally new.job).size ≡ (tally_with old.tally old.job).size
  pub cells_then : (cells : List (List ℕ)) → vector_with old.shape cells new.job ≡ vector_with old.shape cells old.job

-- the disk and the vector too
pub record FileStands {D : Type 0} (old new : PenOf D) : Type 0 where
  pub hand : HandSame old new
  pub disk_same : new.disk ≡ old.disk
  pub vector_same : new.vector ≡ old.vector

module _ {D : Type 0} {old new : PenOf D} where
  HandSame-job : new.shape ≡ old.shape → new.tally ≡ old.tally → new.job ≡ old.job → HandSame old new
  HandSame-job shape tally job = record {
    shape_same = shape;
    tally_same = tally;
    idle_before = λ none. sym job ∙ none;
    size_then = ap (λ (j : _). (tally_with old.tally j).size) job;
    cells_then = λ cells. ap (vector_with old.shape cells) job;
  }

  HandSame-same : new ≡ old → HandSame old new
  HandSame-same same = HandSame-job (ap (λ (p : PenOf D). p.shape) same) (ap (λ (p : PenOf D). p.tally) same) (ap (λ (p : PenOf D). p.job) same)

  pub FileStands-unchanged : IsUnchanged old new → FileStands old new
  FileStands-unchanged is = record {
    hand = HandSame-job is.shape_same is.tally_same is.job_same;
    disk_same = is.disk_same;
    vector_same = is.file_same.vector_same;
  }

  pub FileStands-fold : (begun : Bool) → IsFoldAnswer old new begun → FileStands old new
  FileStands-fold true is = record {
    hand = HandSame-job is.shape_same is.tally_same is.job_same;
    disk_same = is.disk_same;
    vector_same = is.file_same.vector_same;
  }
  FileStands-fold false is = record {
    hand = HandSame-same is.1;
    disk_same = ap (λ (p : PenOf D). p.disk) is.1;
    vector_same = ap (λ (p : PenOf D). p.vector) is.1;
  }

  -- a tick of the log that doesn't end the job
  pub HandSame-idle : IsTicked old new ticks.Idle → HandSame old new
  HandSame-idle is = HandSame-same is.1

  pub HandSame-step : IsTicked old new ticks.Step → HandSame old new
  HandSame-step is = record {
    shape_same = is.3.shape_same;
    tally_same = is.3.tally_same;
    idle_before = λ none. let some = sym is.2.2 ∙ none in absurd cc;
    size_then = ap (λ (j : _). (tally_with old.tally j).size) is.2.2 ∙ sym (ap (λ (j : _). (tally_with old.tally j).size) is.1);
    cells_then = λ cells. ap (vector_with old.shape cells) is.2.2 ∙ sym (ap (vector_with old.shape cells) is.1);
  }

  pub HandSame-fault : (fault : PenFault) → IsTickFault old new fault → HandSame old new
  HandSame-fault fault is = elim is [
    | inl was ↦ HandSame-same was.2
    | inr broke ↦ HandSame-job broke.4.counts_same.shape_same broke.4.counts_same.tally_same broke.4.job_same
  ]

  -- a tick of the homes
  HandSame-home_ticked : (ticked : HomeTicked) → IsHomeTicked old new ticked → HandSame old new
  HandSame-home_ticked home_ticks.Idle is = HandSame-same is.1
  HandSame-home_ticked home_ticks.Step is = HandSame-job is.2.shape_same is.2.tally_same is.2.job_same
  HandSame-home_ticked home_ticks.Filed is = record {
    shape_same = is.1.shape_same;
    tally_same = is.1.tally_same;
    idle_before = λ none. is.1.idle;
    size_then = ap (λ (j : _). (tally_with old.tally j).size) is.1.job_is ∙ sym (ap (λ (j : _). (tally_with old.tally j).size) is.1.idle);
    cells_then = λ cells. ap (vector_with old.shape cells) is.1.job_is ∙ sym (ap (vector_with old.shape cells) is.1.idle);
  }
  HandSame-home_ticked home_ticks.Waiting is = HandSame-same is.1.same

  HandSame-home_fault : (fault : PenFault) → IsHomeFault old new fault → HandSame old new
  HandSame-home_fault fault is = elim is [
    | inl was ↦ HandSame-same was.2
    | inr broke ↦ HandSame-job broke.5.counts_same.shape_same broke.5.counts_same.tally_same broke.5.job_same
  ]

  pub HandSame-home : (answer : Result HomeTicked PenFault) → IfOk answer (λ ticked. IsHomeTicked old new ticked) → IfErr answer (λ fault. IsHomeFault old new fault)
      → HandSame old new
  HandSame-home (Ok ticked) is refused = HandSame-home_ticked ticked is
  HandSame-home (Err fault) is refused = HandSame-home_fault fault refused

-- nothing has changed of the same pen
pub IsUnchanged-refl : {D : Type 0} (pen : PenOf D) → IsUnchanged pen pen
IsUnchanged-refl pen = record {
  disk_same = refl;
  file_same = record { frames_same = refl; vector_same = refl };
  job_same = refl;
  broken_same = refl;
  shape_same = refl;
  fold_same = refl;
  tally_same = refl;
  gate_same = refl;
}

-- ---- the file and the counts

module _ {R D : Type 0} {form : Encoding R} {keeps : Type 0} {f : FlusherOf R D} (is : IsFlusher keeps form f) where
  IsFlusher-hand : (pen : PenOf D) (keeps' : Type 0) → HandSame f.pen pen → (keeps' → keeps) → (keeps' → pen.vector ≡ f.pen.vector)
      → IsFlusher keeps' form (flusher_of form pen f.pass f.mark f.before f.taken f.settled)
  IsFlusher-hand pen keeps' hand back vector =
      kept is pen f.taken f.settled keeps' hand.shape_same is.told_settled is.settled_taken is.taken_known
      (λ none. is.idle_settled (hand.idle_before none))
      (ap (λ (t : Tally). t.size) hand.tally_same ∙ is.size_is)
      (ap (λ (t : Tally). (tally_with t pen.job).size) hand.tally_same ∙ hand.size_then ∙ is.size_then)
      back
      (λ model. subst (λ (cells : List (List ℕ)). AreCellsOf form cells (list_to f f.settled)) (sym (vector model)) (is.file_is (back model)))
      (λ model.
      let then = ap (λ (s : _). vector_with s pen.vector pen.job) hand.shape_same ∙ hand.cells_then pen.vector ∙ ap (λ (cells : List (List ℕ)). vector_with f.pen.shape cells f.pen.job) (vector model) in
      subst (λ (cells : List (List ℕ)). AreCellsOf form cells (list_to f f.taken)) (sym then) (is.file_then (back model)))

  IsFlusher-opening : (pen : PenOf D) → keeps → pen.vector ≡ f.pen.vector → read_as form (take f.before pen.vector) ≡ f.opening
  IsFlusher-opening pen model vector =
      opening_kept is pen f.settled model (subst (λ (cells : List (List ℕ)). AreCellsOf form cells (list_to f f.settled)) (sym vector) (is.file_is model))

  IsFlusher-learns : (pass : Known R) → IsPrefix f.pass.entries pass.entries → pass.of ≡ f.pass.of → IsFlusher keeps form (record f { pass = pass })
  IsFlusher-learns pass begins of =
      let order = is.settled_taken in
      let known = is.taken_known in
      let long = ap length begins in
      let taken = take-begins f.pass.entries pass.entries f.taken begins is.taken_known in
      let settled = take-begins f.pass.entries pass.entries f.settled begins (omega (arith, order, known)) in
      record {
        one_width = is.one_width;
        told_settled = is.told_settled;
        settled_taken = is.settled_taken;
        taken_known = omega (arith, length-take (length f.pass.entries) pass.entries);
        idle_settled = is.idle_settled;
        in_limit = subst (λ (d : _). f.before + d.limit ≤ record_limit) (sym of) is.in_limit;
        size_is = is.size_is ∙ sym (ap (λ (es : List _). f.before + total es) settled);
        size_then = is.size_then ∙ sym (ap (λ (es : List _). f.before + total es) taken);
        opening_whole = is.opening_whole;
        file_is = λ model. subst (λ (es : List _). AreCellsOf form f.pen.vector (f.opening ++ grown_records es)) (sym settled) (is.file_is model);
        file_then = λ model. subst (λ (es : List _). AreCellsOf form (vector_after f.pen) (f.opening ++ grown_records es)) (sym taken) (is.file_then model);
      }

  IsFlusher-told : (mark : MarkEnd) → mark.told.count ≤ f.settled → IsFlusher keeps form (record f { mark = mark })
  IsFlusher-told mark told = record {
    one_width = is.one_width;
    told_settled = told;
    settled_taken = is.settled_taken;
    taken_known = is.taken_known;
    idle_settled = is.idle_settled;
    in_limit = is.in_limit;
    size_is = is.size_is;
    size_then = is.size_then;
    opening_whole = is.opening_whole;
    file_is = is.file_is;
    file_then = is.file_then;
  }

-- ---- all that holds of one

abbrev pub Stands : {R D : Type 0} → (D → Type 0) → (D → List State) → Encoding R → FlusherOf R D → Type 0
Stands keeps states form f = IsFlusher (keeps f.pen.disk) form f × HasTold (keeps f.pen.disk) (states f.pen.disk) form f

module _ {R D : Type 0} {form : Encoding R} (keeps : D → Type 0) (states : D → List State) {f : FlusherOf R D}
    (stands : IsFlusher (keeps f.pen.disk) form f × HasTold (keeps f.pen.disk) (states f.pen.disk) form f) where
  -- its pass is as it was
  pub Stands-pass : (pass : Known R) → pass ≡ f.pass → Stands keeps states form (record f { pass = pass })
  Stands-pass pass same = subst (λ (p : Known R). Stands keeps states form (record f { pass = p })) (sym same) stands

  -- its end of the mark is as it was
  pub Stands-mark : (mark : MarkEnd) → mark ≡ f.mark → Stands keeps states form (record f { mark = mark })
  Stands-mark mark same = subst (λ (m : MarkEnd). Stands keeps states form (record f { mark = m })) (sym same) stands

  -- its pass learns
  pub Stands-learns : (pass : Known R) → IsPrefix f.pass.entries pass.entries → pass.of ≡ f.pass.of → Stands keeps states form (record f { pass = pass })
  Stands-learns pass begins of = (
    IsFlusher-learns stands.0 pass begins of,
    HasTold-later stands.1 (record f { pass = pass }) (record {
      begins = begins;
      of_same = of;
      mark_of_same = refl;
      before_same = refl;
      no_less_taken = omega arith;
      no_less_settled = omega arith;
      opening_same = λ _. refl;
    }) refl,
  )

  -- its mark says that it is over
  pub Stands-set : (mark : MarkEnd) → mark.raises ≡ f.mark.raises → mark.told.count ≤ f.settled → Stands keeps states form (record f { mark = mark })
  Stands-set mark raises told = (IsFlusher-told stands.0 mark told, HasTold-set stands.1 mark raises)

  -- its pen's file stands
  pub Stands-pen : (pen : PenOf D) → FileStands f.pen pen → Stands keeps states form (flusher_of form pen f.pass f.mark f.before f.taken f.settled)
  Stands-pen pen file =
      let back : keeps pen.disk → keeps f.pen.disk = subst keeps file.disk_same in
      let new = flusher_of form pen f.pass f.mark f.before f.taken f.settled in (
        IsFlusher-hand stands.0 pen (keeps pen.disk) file.hand back (λ _. file.vector_same),
        HasTold-on stands.1 (keeps pen.disk) (states pen.disk) new (ap states file.disk_same) back
            (FlusherGoesOn-same (keeps pen.disk) f new refl refl refl (omega arith) (omega arith)
            (λ model. IsFlusher-opening stands.0 pen (back model) file.vector_same))
            refl,
      )

  -- its pen makes a call of the disk, or none, that leaves no more than the pen says
  pub Stands-called : (pen : PenOf D) (calls : ℕ) → HandSame f.pen pen → clock (states pen.disk) ≡ clock (states f.pen.disk) + calls
      → (keeps pen.disk → keeps f.pen.disk) → (keeps pen.disk → pen.vector ≡ f.pen.vector)
      → (keeps pen.disk → LeavesOnly (states f.pen.disk) (states pen.disk) (MayOpen f.pen))
      → Stands keeps states form (flusher_of form pen f.pass f.mark f.before f.taken f.settled)
  Stands-called pen calls hand time back vector leaves =
      let new = flusher_of form pen f.pass f.mark f.before f.taken f.settled in (
        IsFlusher-hand stands.0 pen (keeps pen.disk) hand back vector,
        HasTold-calls stands.1 stands.0 (keeps pen.disk) (states pen.disk) new (omega arith) back leaves
            (FlusherGoesOn-same (keeps pen.disk) f new refl refl refl (omega arith) (omega arith)
            (λ model. IsFlusher-opening stands.0 pen (back model) (vector model)))
            refl,
      )
