-- What a flusher keeps.
use Rattle.std.proofs.Common.{◌≡◌, ℕ, ◌+◌, ◌≤◌, List, [], ◌∷◌, ◌++◌, length, take, map, None, inl, inr, refl, sym, ap, subst, ◌∙◌, arith}
use Rattle.std.specs.Prelude.{option_to_list, IfSome}
use Rattle.std.proofs.lemmas.List.{append-nil}
use Rattle.std.proofs.Math.Seq.{take-append_seam}
use Rattle.disk_core.specs.State.{State}
use Rattle.disk_core.specs.Moments.{LeavesOnly}
use Rattle.disk_core.proofs.JoinedMoments.{LeavesOnly-weaker}
use Rattle.record_core.specs.Bytes.{Encoding}
use Rattle.record_core.specs.Cells.{AreReadAgain}
use Rattle.segment_core.specs.Raw.{AreCellsOf}
use Rattle.segment_core.proofs.ReadAs.{AreCellsOf-take, AreCellsOf_same}
use Rattle.segment_core.specs.declared.tally.Tally.{Tally}
use Rattle.pen_core.specs.declared.stage.Ticked.{Ticked}
use Rattle.pen_core.specs.declared.stage.Ticked.TheVariants.{Done}
use Rattle.pen_core.specs.PenOf.{PenOf}
use Rattle.pen_core.specs.Pen.{MayOpen, IsTicked, FileTicked, FileGains, vector_after, vector_with}
use Rattle.pen_core.proofs.Typed.{vector_after-none, MayOpen_typed}
use Rattle.directory_core.specs.Chain.{total, grown_records}
use Rattle.directory_core.specs.Known.{Known}
use Rattle.record_core.specs.Limits.{record_limit}
use Rattle.book_core.specs.Marks.{MarkEnd, nothing_told}
use Rattle.flush_core.specs.Flusher.{FlusherOf, IsFlusher, OpensToJob, flusher_of, list_to, read_as, tally_with}

module _ {R : Type 0} (form : Encoding R) where
  -- ---- the records from before the phase

  read_as-bytes : (records : List R) → AreReadAgain form records → read_as form (map form.bytes_of records) ≡ records
  read_as-bytes [] again = refl
  read_as-bytes (r ∷ records) again = ap (λ o. option_to_list o ++ read_as form (map form.bytes_of records)) again.0 ∙ ap (λ rs. r ∷ rs) (read_as-bytes records again.1)

  -- cells of records are read as these
  pub read_as-cells : (cells : List (List ℕ)) (records : List R) → AreCellsOf form cells records → read_as form cells ≡ records
  read_as-cells cells records are = ap (read_as form) are.written ∙ read_as-bytes records are.read_again

  -- the first of them as the first records
  pub read_as-take : (before : ℕ) (cells : List (List ℕ)) (records more : List R) → length records ≡ before → AreCellsOf form cells (records ++ more)
      → read_as form (take before cells) ≡ records
  read_as-take before cells records more many are =
      read_as-cells (take before cells) (take before (records ++ more)) (AreCellsOf-take form before cells (records ++ more) are)
      ∙ ap (λ n. take n (records ++ more)) (sym many) ∙ take-append_seam records more

  read_as-whole : (before : ℕ) (cells : List (List ℕ)) (records : List R) → length records ≡ before → AreCellsOf form cells records → read_as form (take before cells) ≡ records
  read_as-whole before cells records many are = read_as-take before cells records [] many (subst (AreCellsOf form cells) (sym (append-nil records)) are)

  -- ---- a flusher that has taken nothing

  module _ {D : Type 0} (keeps : Type 0) (before : ℕ) (pen : PenOf D) (list : keeps → (records : List R) × AreCellsOf form pen.vector records × (length records ≡ before)) where
    pub begun_opening : (records : List R) → keeps → AreCellsOf form pen.vector records → read_as form (take before pen.vector) ≡ records
    begun_opening records model are =
        let there = list model in
        let same = AreCellsOf_same form pen.vector records there.0 are there.1 in
        read_as-whole before pen.vector records (ap length same ∙ there.2) are

    pub begins : (pass : Known R) (mark : MarkEnd) → form.width ≡ pen.shape.width → pen.job ≡ None → pen.tally.size ≡ before
        → before + pass.of.limit ≤ record_limit → (mark.told ≡ nothing_told) × (mark.raises ≡ [])
        → IsFlusher keeps form (flusher_of form pen pass mark before 0 0)
    begins pass mark width idle size limit told = record {
      one_width = width;
      told_settled = let none = ap (λ (r : _). r.count) told.0 in omega (arith, none);
      settled_taken = omega arith;
      taken_known = omega arith;
      idle_settled = λ _. refl;
      in_limit = limit;
      size_is = whole;
      size_then = ap (λ job. (tally_with pen.tally job).size) idle ∙ whole;
      opening_whole = λ model. let there = list model in ap length (begun_opening there.0 model there.1) ∙ there.2;
      file_is = file;
      file_then = λ model. subst (λ cells. AreCellsOf form cells (read_as form (take before pen.vector) ++ [])) (sym (vector_after-none pen idle)) (file model);
    }
      where
        whole : pen.tally.size ≡ before + 0
        whole = omega (arith, size)

        file : keeps → AreCellsOf form pen.vector (read_as form (take before pen.vector) ++ [])
        file model = let there = list model in subst (AreCellsOf form pen.vector) (sym (begun_opening there.0 model there.1) ∙ sym (append-nil (read_as form (take before pen.vector)))) there.1

-- ---- what stays of one

module _ {R D : Type 0} {form : Encoding R} {keeps : Type 0} {f : FlusherOf R D} (is : IsFlusher keeps form f) where
  -- another pen whose file has the records from before the phase
  pub opening_kept : (pen : PenOf D) (settled : ℕ) → keeps → AreCellsOf form pen.vector (list_to f settled) → read_as form (take f.before pen.vector) ≡ f.opening
  opening_kept pen settled model are =
      read_as-take form f.before pen.vector f.opening (grown_records (take settled f.pass.entries)) (is.opening_whole model) are

  -- another pen that has the growths settled in its file, and those taken once its job is done
  pub kept : (pen : PenOf D) (taken settled : ℕ) (keeps' : Type 0) → pen.shape ≡ f.pen.shape → f.mark.told.count ≤ settled → settled ≤ taken
      → taken ≤ length f.pass.entries → (pen.job ≡ None → taken ≡ settled)
      → pen.tally.size ≡ f.before + total (take settled f.pass.entries)
      → (tally_with pen.tally pen.job).size ≡ f.before + total (take taken f.pass.entries) → (keeps' → keeps)
      → (keeps' → AreCellsOf form pen.vector (list_to f settled)) → (keeps' → AreCellsOf form (vector_after pen) (list_to f taken))
      → IsFlusher keeps' form (flusher_of form pen f.pass f.mark f.before taken settled)
  kept pen taken settled keeps' shape told order known idle size then back file job = record {
    one_width = is.one_width ∙ ap (λ (s : _). s.width) (sym shape);
    told_settled = told;
    settled_taken = order;
    taken_known = known;
    idle_settled = idle;
    in_limit = is.in_limit;
    size_is = size;
    size_then = then;
    opening_whole = λ model. ap length (opening model) ∙ is.opening_whole (back model);
    file_is = λ model. subst (λ (rs : List R). AreCellsOf form pen.vector (rs ++ grown_records (take settled f.pass.entries))) (sym (opening model)) (file model);
    file_then = λ model. subst (λ (rs : List R). AreCellsOf form (vector_after pen) (rs ++ grown_records (take taken f.pass.entries))) (sym (opening model)) (job model);
  }
    where
      opening : keeps' → read_as form (take f.before pen.vector) ≡ f.opening
      opening model = opening_kept pen settled (back model) (file model)

  -- behind the last tick of a job the file has what was taken
  ticked_cells : (pen : PenOf D) (tick : Ticked) → tick ≡ Done → IsTicked f.pen pen tick → FileTicked f.pen pen tick → keeps → AreCellsOf form pen.vector (list_to f f.taken)
  ticked_cells pen tick done ticked file model =
      let was = subst (IsTicked f.pen pen) done ticked in
      let gains = subst (λ (j : _). IfSome j (λ job. FileGains job.frame f.pen pen)) was.1 (subst (FileTicked f.pen pen) done file) in
      subst (λ (cells : List (List ℕ)). AreCellsOf form cells (list_to f f.taken))
      (ap (vector_with f.pen.shape f.pen.vector) was.1 ∙ sym gains.vector_is) (is.file_then model)

  -- and the records from before the phase
  pub ticked_opening : (pen : PenOf D) (tick : Ticked) → tick ≡ Done → IsTicked f.pen pen tick → FileTicked f.pen pen tick → keeps → read_as form (take f.before pen.vector) ≡ f.opening
  ticked_opening pen tick done ticked file model = opening_kept pen f.taken model (ticked_cells pen tick done ticked file model)

  -- what was taken is settled then
  pub ticked_kept : (pen : PenOf D) (tick : Ticked) (keeps' : Type 0) → tick ≡ Done → IsTicked f.pen pen tick → (keeps' → FileTicked f.pen pen tick) → (keeps' → keeps)
      → IsFlusher keeps' form (flusher_of form pen f.pass f.mark f.before f.taken f.taken)
  ticked_kept pen tick keeps' done ticked file back =
      let was = subst (IsTicked f.pen pen) done ticked in
      let counts = was.3 in
      let told = is.told_settled in
      let order = is.settled_taken in
      let size : pen.tally.size ≡ f.before + total (take f.taken f.pass.entries) =
      ap (λ (t : Tally). t.size) counts.tally_is ∙ sym (ap (λ (j : _). (tally_with f.pen.tally j).size) was.1) ∙ is.size_then in
      let cells : keeps' → AreCellsOf form pen.vector (list_to f f.taken) = λ model. ticked_cells pen tick done ticked (file model) (back model) in
      kept pen f.taken f.taken keeps' counts.shape_same (omega arith) (omega arith) is.taken_known (λ _. refl) size
      (ap (λ (j : _). (tally_with pen.tally j).size) counts.job_done ∙ size) back cells
      (λ model. subst (λ (cells : List (List ℕ)). AreCellsOf form cells (list_to f f.taken)) (sym (vector_after-none pen counts.job_done)) (cells model))

  -- what the disk may leave
  pub keeps_job : keeps → (image : List ℕ) → MayOpen f.pen image → OpensToJob form f image
  keeps_job model image opens =
      let order = is.settled_taken in
      let known = is.taken_known in
      elim (MayOpen_typed form f.pen image (list_to f f.settled) (list_to f f.taken) is.one_width (is.file_is model) (is.file_then model) opens) [
        | inl old ↦ record {
          pen_opens = opens;
          kept = record { count = f.settled; at_least = omega arith; known = omega (arith, order, known); opens = old };
          just = inl refl;
        }
        | inr new ↦ record {
          pen_opens = opens;
          kept = record { count = f.taken; at_least = order; known = known; opens = new };
          just = inr refl;
        }
      ]

  pub leaves_job : {old new : List State} → keeps → LeavesOnly old new (MayOpen f.pen) → LeavesOnly old new (OpensToJob form f)
  leaves_job {old} {new} model leaves = LeavesOnly-weaker old new (MayOpen f.pen) (OpensToJob form f) (keeps_job model) leaves
