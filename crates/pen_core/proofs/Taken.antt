-- A fold is begun, on a pen's fields.
use Rattle.std.proofs.Common.{◌≡◌, ℕ, ◌+◌, ◌-◌, ◌≤◌, ◌<◌, true, List, [], ◌∷◌, ◌++◌, length, map, take, drop, All, Option, Some, None, refl, sym, ap, subst, ◌∙◌, arith}
use Rattle.std.specs.List.{flat_map}
use Rattle.std.proofs.lemmas.List.{length-append, length-map, take-append-le, append-nil}
use Rattle.disk_core.specs.State.{State, now}
use Rattle.record_core.specs.Bytes.{Encoding}
use Rattle.segment_core.specs.declared.format.Shape.{Shape}
use Rattle.segment_core.specs.declared.found.Home as Home_
use Rattle.segment_core.specs.declared.tally.Tally.{Tally}
use Rattle.segment_core.specs.Frame.{Frame, frame_text}
use Rattle.segment_core.specs.Frame as kinds
use Rattle.segment_core.specs.Reading.{Seen}
use Rattle.segment_core.specs.Found.{pairs_of, live_of}
use Rattle.segment_core.specs.Raw.{after_frame}
use Rattle.pen_core.specs.declared.pen.Pen.TheInside.{Inside}
use Rattle.pen_core.specs.Fields.{log_of, seen_as, IsSoundPen}
use Rattle.pen_core.specs.declared.fold.Fold.{Fold}
use Rattle.pen_core.specs.declared.step.PenStep.{PenStep}
use Rattle.pen_core.specs.declared.step.PenStep.TheVariants.{Body, BodySync, Gate, GateSync}
use Rattle.pen_core.specs.declared.stage.FoldStage.{FoldStage}
use Rattle.pen_core.specs.declared.stage.FoldStage.TheVariants.{Home, Sync, Ready, Filed}
use Rattle.pen_core.specs.declared.stage.FoldStage.TheVariants as stages
use Rattle.pen_core.specs.Known.{PendingIsFolded, IsFileOf, IsWritten}
use Rattle.pen_core.specs.PenLog.{PenLog, frames_read, vector_read}
use Rattle.pen_core.specs.Vectors.{frame_at, frames_with}
use Rattle.pen_core.specs.Plan.{IsPlan}
use Rattle.pen_core.specs.Values.{write_for}
use Rattle.pen_core.specs.Folds.{IsFolding, IsWholeFold}
use Rattle.pen_core.specs.InHand.{write_of, left_of, in_stage, gate_then, IsAtStage, HomesAt, HasFold}
use Rattle.pen_core.specs.Inside.{job_of, IsMaybeJob, IsAtStep, Stands, IsPen}
use Rattle.pen_core.specs.Listed.{HasLists}
use Rattle.pen_core.specs.PenOf.{FoldOf}
use Rattle.pen_core.specs.Pen.{open_count, job_len, IsReadyToFold}
use Rattle.pen_core.proofs.Begun.{nothing_folded}
use Rattle.pen_core.proofs.FoldListed.{some_runs, planned_pen, folding_pen, whole_pen}
use Rattle.pen_core.proofs.FoldSeen.{left_long}
use Rattle.pen_core.proofs.Listed.{live_counted}

-- ---- where nothing is being folded, any count is known of

pending_more : (shape : Shape) (count : ℕ) (frames next : List Frame) (s : State) → PendingIsFolded shape 0 frames next s
    → PendingIsFolded shape count frames next s
pending_more shape count frames next s none j lt is = absurd (nothing_folded shape next j (none j lt is))

file_more : (shape : Shape) (count : ℕ) (frames : List Frame) (vector : List (List ℕ)) (s : State)
    → IsFileOf shape 0 frames vector s → IsFileOf shape count frames vector s
file_more shape count frames vector s file =
    record {
      holds = file.holds;
      gate_synced = file.gate_synced;
      pending_is_folded = pending_more shape count frames frames s file.pending_is_folded;
    }

written_more : (shape : Shape) (count : ℕ) (frames next : List Frame) (after : List (List ℕ)) (s : State)
    → IsWritten shape 0 frames next after s → IsWritten shape count frames next after s
written_more shape count frames next after s wrote =
    record {
      longer = wrote.longer;
      holds = wrote.holds;
      closed = wrote.closed;
      inside = wrote.inside;
      pending_is_folded = pending_more shape count frames next s wrote.pending_is_folded;
    }

step_more : (shape : Shape) (count gate : ℕ) (frames next : List Frame) (after : List (List ℕ)) (bytes : List ℕ)
    (step : PenStep) (s : State)
    → IsAtStep shape 0 gate frames next after bytes step s → IsAtStep shape count gate frames next after bytes step s
step_more shape count gate frames next after bytes Body s at = (
  at.0,
  record {
    some = at.1.some;
    size = at.1.size;
    closed = at.1.closed;
    pending_is_folded = pending_more shape count frames next s at.1.pending_is_folded;
    holds = at.1.holds;
  },
)
step_more shape count gate frames next after bytes BodySync s at = (at.0, written_more shape count frames next after s at.1)
step_more shape count gate frames next after bytes Gate s at = (at.0, written_more shape count frames next after s at.1, at.2)
step_more shape count gate frames next after bytes GateSync s at = (written_more shape count frames next after s at.0, at.1, at.2)

stands_more : (shape : Shape) (count gate : ℕ) (frames : List Frame) (vector : List (List ℕ)) (bytes : List ℕ)
    (o : Option PenStep) (s : State)
    → Stands shape 0 gate frames vector bytes o s → Stands shape count gate frames vector bytes o s
stands_more shape count gate frames vector bytes None s at = at
stands_more shape count gate frames vector bytes (Some step) s at =
    let frame = frame_at shape bytes in
    step_more shape count gate frames (frames_with frames frame) (after_frame shape.width vector frame) bytes step s at

pub pen_more : (count : ℕ) {keeps : Type 0} {states : List State} {log : PenLog} {next : Tally} → IsPen 0 keeps states log next
    → IsPen count keeps states log next
pen_more count {states = states} {log = log} pen = record {
  wide = pen.wide;
  gate_fits = pen.gate_fits;
  size_fits = pen.size_fits;
  changes_fit = pen.changes_fit;
  folded_counted = pen.folded_counted;
  job = pen.job;
  knows = λ model. (
      let k = pen.knows model in
      let frames : List Frame = frames_read states log in
      let vector : List (List ℕ) = vector_read states log in
      record {
        gate_is = k.gate_is;
        tally_is = k.tally_is;
        file = file_more log.shape count frames vector (now states) k.file;
        images_open = k.images_open;
        gate_pending = k.gate_pending;
        stands = λ whole. stands_more log.shape count log.gate frames vector log.bytes log.step (now states) (k.stands whole);
      });
}

take_whole : {A : Type 0} (xs : List A) (n : ℕ) → n ≡ length xs → take n xs ≡ xs
take_whole xs n is = ap (λ ys. take n ys) (sym (append-nil xs)) ∙ take-append-le n xs [] (omega arith) ∙ all xs n is
  where
    all : {A : Type 0} (xs : List A) (n : ℕ) → n ≡ length xs → take n xs ≡ xs
    all [] n is = ap (λ k. take k []) is
    all (x ∷ xs) n is = ap (λ k. take k (x ∷ xs)) is ∙ ap (λ ys. x ∷ ys) (all xs (length xs) refl)

-- where the gate will stand, as it is seen
gate_seen : (shape : Shape) (gate : ℕ) (tally next : Tally) (bytes : List ℕ) (o : Option PenStep)
    → IsMaybeJob shape gate tally next bytes o → gate_then gate bytes o ≡ gate + job_len shape (job_of shape bytes o)
gate_seen shape gate tally next bytes None job = omega arith
gate_seen shape gate tally next bytes (Some step) job =
    let all = ap length job.spelled ∙ length-append (frame_text shape.format (frame_at shape bytes)) (0 ∷ []) in omega arith

-- the same plan, in a fold of other counts
pub plan_for : {R : Type 0} (form : Encoding R) (records : List R) (width size : ℕ) (live : List (ℕ × ℕ))
    (homes : List Home_.Home) (fold fold' : Fold)
    → fold'.bytes ≡ fold.bytes → fold'.writes ≡ fold.writes → IsPlan form records width size live homes fold
    → IsPlan form records width size live homes fold'
plan_for form records width size live homes fold fold' bytes_same writes_same plan = record {
  cover = plan.cover;
  runs = plan.runs;
  covered = plan.covered;
  at_home = plan.at_home;
  writes_are =
      ap (λ bs. map (write_of bs.items) fold'.writes.items) bytes_same
      ∙ ap (λ ws. map (write_of fold.bytes.items) ws.items) writes_same ∙ plan.writes_are;
  inside =
      subst (λ bs. All (λ write. (write.from ≤ write.to) × (write.to ≤ length bs.items)) fold'.writes.items) (sym bytes_same)
      (subst (λ ws. All (λ write. (write.from ≤ write.to) × (write.to ≤ length fold.bytes.items)) ws.items)
      (sym writes_same) plan.inside);
}

unseen_at : (stage : FoldStage) (fold : FoldOf) → in_stage stage fold ≡ None → stage ≡ stages.None
unseen_at stages.None fold none = refl
unseen_at (Home n) fold none = absurd cc
unseen_at Sync fold none = absurd cc
unseen_at Ready fold none = absurd cc
unseen_at Filed fold none = absurd cc

pub length_left : (fold : Fold) → fold.done ≡ 0 → length (left_of fold) ≡ length fold.writes.items
length_left fold first = let long = left_long fold in omega arith

-- ---- it is begun

-- What a fold is begun from.
pub record Takes {R D : Type 0} (form : Encoding R) (records : List R) (keeps : D → Type 0) (states : D → List State) (pen : Inside D) (fold : Fold) : Type 0 where
  pub sound : IsSoundPen keeps states pen
  pub ready : IsReadyToFold (seen_as states pen) true
  pub plan : IsPlan form records pen.shape.width pen.tally.size (take pen.live pen.homes.live.items) pen.homes.homes.items fold
  pub size_of : (r : R) → length (form.bytes_of r) ≡ pen.shape.width
  pub all : length records ≡ pen.tally.size
  pub values : keeps pen.disk → vector_read (states pen.disk) (log_of pen) ≡ map form.bytes_of records
  pub spelled : fold.frame.items ≡ frame_text pen.shape.format (kinds.Fold pen.tally.changes) ++ 0 ∷ []
  pub at : fold.stage ≡ Home (length fold.writes.items)
  pub count_is : fold.count ≡ pen.tally.changes
  pub runs_is : fold.runs ≡ pen.live
  pub first : fold.done ≡ 0

module _ {R D : Type 0} {form : Encoding R} {records : List R} {keeps : D → Type 0} {states : D → List State} {pen : Inside D} {fold : Fold}
    (takes : Takes form records keeps states pen fold) where
  abbrev old : List State
  old = states pen.disk

  none : pen.fold.stage ≡ stages.None
  none = unseen_at pen.fold.stage (record { count = pen.fold.count; left = left_of pen.fold; stage = pen.fold.stage }) takes.ready.1

  abbrev frames : List Frame
  frames = frames_read old (log_of pen)

  abbrev vector : List (List ℕ)
  vector = vector_read old (log_of pen)

  closed : IsPen 0 (keeps pen.disk) old (log_of pen) pen.next
  closed = subst (λ st. IsPen (open_count st pen.fold.count) (keeps pen.disk) old (log_of pen) pen.next) none takes.sound.job

  pen_taken : IsPen (open_count fold.stage fold.count) (keeps pen.disk) old (log_of pen) pen.next
  pen_taken = pen_more (open_count fold.stage fold.count) closed

  listed_taken : HasLists (keeps pen.disk) old (log_of pen) pen.homes pen.live fold
  listed_taken =
      let counted = live_counted pen.shape takes.sound.lists.frames in
      let lived : List Seen = live_of pen.shape takes.sound.lists.frames in
      let every : take (fold.count - pen.tally.folded) lived ≡ lived =
      take_whole lived (fold.count - pen.tally.folded)
      (ap (λ n. n - pen.tally.folded) takes.count_is ∙ ap (λ t. t.changes - t.folded) takes.sound.lists.tally_is ∙ sym counted) in
      record {
        frames = takes.sound.lists.frames;
        legal = takes.sound.lists.legal;
        gate_is = takes.sound.lists.gate_is;
        tally_is = takes.sound.lists.tally_is;
        lists = takes.sound.lists.lists;
        filed = λ count is. (let clash : stages.None ≡ Filed = sym none ∙ (takes.sound.lists.filed count is).0 in absurd cc);
        runs_are = λ held. takes.runs_is ∙ takes.sound.lists.lists.counted ∙ sym (ap (λ cs. length (flat_map pairs_of cs)) every);
        same = takes.sound.lists.same;
      }

  some_writes : 0 < length fold.writes.items
  some_writes =
      let runs = some_runs takes.sound.lists takes.plan.cover takes.plan.covered takes.plan.runs takes.plan.at_home takes.ready.2 in
      let same = ap length takes.plan.writes_are in
      omega (arith, length-map fold.writes.items (write_of fold.bytes.items), length-map takes.plan.runs (write_for form records))

  fold_taken : HasFold (keeps pen.disk) old (log_of pen) fold
  fold_taken = record {
    counts = subst (IsAtStage pen.shape pen.gate pen.tally pen.bytes.items pen.step fold) (sym takes.at) (
      record {
        live = omega (arith, takes.ready.2);
        upto = omega arith;
        planned =
            planned_pen takes.sound.lists takes.plan.cover takes.plan.covered takes.plan.runs
            takes.plan.at_home form records fold.bytes.items fold.writes.items (omega (arith, takes.sound.job.wide.0)) takes.plan.writes_are
            takes.size_of takes.all takes.plan.inside;
        spelled = takes.spelled ∙ ap (λ n. frame_text pen.shape.format (kinds.Fold n) ++ 0 ∷ []) (sym takes.count_is);
        room = omega (arith, takes.ready.3, gate_seen pen.shape pen.gate pen.tally pen.next pen.bytes.items pen.step takes.sound.job.job);
      },
      omega arith,
      some_writes,
    );
    homes = λ model whole. subst (HomesAt pen.shape frames vector fold (now old)) (sym takes.at) (folding_now model);
  }
    where
      folding_now : (model : keeps pen.disk) → HomesAt pen.shape frames vector fold (now old) (Home (length fold.writes.items))
      folding_now model =
          let made =
          folding_pen takes.sound.lists takes.plan.cover takes.plan.covered takes.plan.runs
          takes.plan.at_home form records fold.bytes.items fold.writes.items (omega (arith, takes.sound.job.wide.0)) takes.plan.writes_are
          model (closed.knows model).file.holds (takes.values model) in
          subst (λ n. IsFolding pen.shape n frames vector (left_of fold) (now old)) (sym takes.count_is)
          (subst
          (λ d.
          IsFolding pen.shape pen.tally.changes frames vector (map (write_of fold.bytes.items) (drop d fold.writes.items)) (now old))
          (sym takes.first) made)

  pub some_left : 0 < length (left_of fold)
  some_left = let some = some_writes in omega (arith, length_left fold takes.first)

  pub pen_takes : IsSoundPen keeps states (record pen { fold = fold })
  pen_takes = record { job = pen_taken; lists = listed_taken; fold = fold_taken }

  -- where the disk keeps the model
  pub whole_taken : keeps pen.disk → IsWholeFold pen.shape frames vector (left_of fold)
  whole_taken model =
      subst (λ d. IsWholeFold pen.shape frames vector (map (write_of fold.bytes.items) (drop d fold.writes.items))) (sym takes.first)
      (whole_pen takes.sound.lists takes.plan.cover takes.plan.covered takes.plan.runs takes.plan.at_home form
      records fold.bytes.items fold.writes.items (omega (arith, takes.sound.job.wide.0)) takes.plan.writes_are model
      (closed.knows model).file.holds (takes.values model))
