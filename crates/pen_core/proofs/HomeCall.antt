-- A tick of the homes that makes the fold's call, by the fields of the pen.
use Rattle.std.proofs.Common.{◌≡◌, ℕ, ◌+◌, ◌-◌, ◌≤◌, ◌<◌, inl, inr, Bool, true, false, cond, List, [], ◌∷◌, ◌++◌, length, Option, Some, None, Result, OnOk, OnErr, refl, sym, ap, subst, ◌∙◌, arith}
use Rattle.std.specs.Prelude.{nat_lt}
use Rattle.std.specs.List.{AllByRecursion}
use Rattle.std.proofs.lemmas.Bool.{cases_Bool, ltb-true, ltb-false}
use Rattle.disk_core.specs.declared.fault.DiskFault.{DiskFault}
use Rattle.disk_core.specs.State.{State, now, settled, written, IsImage}
use Rattle.disk_core.specs.Calls.{bytes_of}
use Rattle.disk_core.specs.Moments.{LeavesOnly}
use Rattle.disk_core.proofs.CallLemmas.{LeavesOnly-write, LeavesOnly-sync}
use Rattle.segment_core.specs.Frame.{Frame}
use Rattle.segment_core.specs.Frame as kinds
use Rattle.pen_core.specs.declared.fold.Fold.{Fold}
use Rattle.pen_core.specs.declared.step.PenStep.{PenStep}
use Rattle.pen_core.specs.declared.stage.FoldStage.{FoldStage}
use Rattle.pen_core.specs.declared.stage.FoldStage.TheVariants.{Home, Sync, Ready, Filed}
use Rattle.pen_core.specs.declared.stage.FoldStage.TheVariants as stages
use Rattle.pen_core.specs.Held.{IsBeingFolded, gate_of}
use Rattle.pen_core.specs.PenLog.{PenLog, frames_read, vector_read}
use Rattle.pen_core.specs.Vectors.{frame_at}
use Rattle.pen_core.specs.Folds.{IsFolding}
use Rattle.pen_core.specs.InHand.{left_of, first_write, has_call, stage_after, done_after, advanced, HomeCalls, FailsHomeCall, CanCall, IsPlanned, IsUnfiled, frame_in_hand, IsAtStage, HomesAt}
use Rattle.pen_core.specs.InHand.{HasFold}
use Rattle.pen_core.specs.Inside.{job_in, Knows, IsPen}
use Rattle.pen_core.specs.Pen.{OpensWith, open_count}
use Rattle.pen_core.proofs.BeingFolded.{IsBeingFolded_push}
use Rattle.pen_core.proofs.Begun.{held_legal}
use Rattle.pen_core.proofs.Folds.{folding_written, folding_seen}
use Rattle.pen_core.proofs.Parsed.{seen_as}
use Rattle.pen_core.proofs.Whole.{FileStays}
use Rattle.pen_core.proofs.FoldSeen.{rest_of, left_next, listed_called}
use Rattle.pen_core.proofs.HomeTick.{Later, write_images, written_knows, torn_knows, synced_knows, same_knows, home_count, can_call}
use Rattle.pen_core.proofs.InHand.{fold_broken}
use Rattle.pen_core.proofs.Listed.{listed_stays}
use Rattle.pen_core.specs.Fields.{log_of, IsSoundPen}
use Rattle.pen_core.specs.declared.pen.Pen.TheInside.{Inside}

-- What a tick knows that makes the call. Each disk that keeps the model reads as an image.
pub record HomeCall {D : Type 0} (keeps : D → Type 0) (states : D → List State) (pen : Inside D) (new : D) : Type 0 where
  pub sound : IsSoundPen keeps states pen
  pub going : pen.broken ≡ false
  pub calls : has_call pen.fold.stage ≡ true
  pub back : keeps new → keeps pen.disk
  pub reads : (disk : D) → keeps disk → IsImage (now (states disk)) (bytes_of (states disk))

abbrev pub home_call : {D : Type 0} {keeps : D → Type 0} {states : D → List State} {pen : Inside D} {new : D}
    → IsSoundPen keeps states pen → pen.broken ≡ false → has_call pen.fold.stage ≡ true → (keeps new → keeps pen.disk)
    → ((disk : D) → keeps disk → IsImage (now (states disk)) (bytes_of (states disk))) → HomeCall keeps states pen new
home_call sound going calls back reads = record { sound = sound; going = going; calls = calls; back = back; reads = reads }

-- what is asked of the call
pub may_call : {D : Type 0} {keeps : D → Type 0} {states : D → List State} {pen : Inside D} → IsSoundPen keeps states pen
    → has_call pen.fold.stage ≡ true
    → CanCall pen.gate pen.fold pen.fold.stage
may_call {pen = pen} sound calls = can_call pen.shape pen.gate pen.tally pen.bytes.items pen.step pen.fold pen.fold.stage calls sound.fold.counts

module _ {D : Type 0} {keeps : D → Type 0} {states : D → List State} {pen : Inside D} {new : D} (tick : HomeCall keeps states pen new) where
  abbrev old : List State
  old = states pen.disk

  abbrev left : List State
  left = states new

  abbrev frames : List Frame
  frames = frames_read old (log_of pen)

  abbrev vector : List (List ℕ)
  vector = vector_read old (log_of pen)

  abbrev OpensSo : List ℕ → Type 0
  OpensSo = OpensWith pen.shape frames vector (job_in (log_of pen))

  abbrev KnowsSo : ℕ → Bool → State → Type 0
  KnowsSo n b t = Knows n (record (log_of pen) { broken = b }) frames vector t

  abbrev AtStage : Fold → FoldStage → Type 0
  AtStage fold stage = IsAtStage pen.shape pen.gate pen.tally pen.bytes.items pen.step fold stage

  -- a fold that has calls isn't the job
  unfiled : (count : ℕ) → frame_in_hand pen.shape pen.bytes.items pen.step ≡ Some (kinds.Fold count) → ⊥
  unfiled count is =
      let clash : has_call Filed ≡ true = subst (λ st. has_call st ≡ true) (tick.sound.lists.filed count is).0 tick.calls in absurd cc

  later : (at : ℕ) (ws : List ℕ) (below : at + length ws ≤ gate_of pen.shape frames)
      (folded : (j : ℕ) → at ≤ j → j < at + length ws → IsBeingFolded pen.shape pen.fold.count frames j) (n : ℕ)
      → KnowsSo n pen.broken (now old) → (p : Option PenStep)
      → ((count : ℕ) → frame_in_hand pen.shape pen.bytes.items p ≡ Some (kinds.Fold count) → ⊥)
      → (m : keeps pen.disk)
      → Later pen.fold.count (log_of pen) frames vector (now old) (tick.reads pen.disk m) at ws below folded p
  later at ws below folded n k None other m = tt
  later at ws below folded n k (Some step) other m =
      λ j from upto.
      IsBeingFolded_push pen.shape pen.fold.count frames (frame_at pen.shape pen.bytes.items) j
      (held_legal pen.shape frames vector (bytes_of old) k.file.holds) (λ count is. other count (ap (λ f. Some f) is))
      (folded j from upto)

  -- the next home write
  next_write : (m : keeps pen.disk) (n : ℕ) → AtStage pen.fold (Home n)
      → HomesAt pen.shape frames vector pen.fold (now old) (Home n)
      → IsFolding pen.shape pen.fold.count frames vector (first_write (left_of pen.fold) ∷ rest_of pen.fold) (now old)
  next_write m n at homes =
      subst (λ left. IsFolding pen.shape pen.fold.count frames vector left (now old))
      (left_next pen.fold (omega (arith, at.1, at.2))) homes

  -- ---- images

  leaves_at : {T : Type 0} (m : keeps pen.disk) (stage : FoldStage) → has_call stage ≡ true → AtStage pen.fold stage
      → HomesAt pen.shape frames vector pen.fold (now old) stage
      → KnowsSo (open_count stage pen.fold.count) pen.broken (now old)
      → (r : Result T DiskFault) → OnOk r (HomeCalls stage (left_of pen.fold) old left)
      → OnErr r (FailsHomeCall stage (left_of pen.fold) old left)
      → LeavesOnly old left OpensSo
  leaves_at m stages.None calls at homes k r done failed = absurd cc
  leaves_at m Ready calls at homes k r done failed = absurd cc
  leaves_at m Filed calls at homes k r done failed = absurd cc
  leaves_at m (Home n) calls at homes k r done failed =
      let w = first_write (left_of pen.fold) in
      let into = (next_write m n at homes).into_homes.0 in
      LeavesOnly-write old left OpensSo r w.place w.bytes done failed
      (write_images pen.fold.count (log_of pen) frames vector (now old) (tick.reads pen.disk m) w.place w.bytes into.below_gate into.folded pen.step pen.broken
      (later w.place w.bytes into.below_gate into.folded pen.fold.count k pen.step unfiled m) k tick.going)
  leaves_at m Sync calls at homes k r done failed =
      LeavesOnly-sync old left OpensSo r done failed (tick.reads pen.disk m) k.images_open

  pub home_leaves : {T : Type 0} (r : Result T DiskFault)
      → (keeps pen.disk → OnOk r (HomeCalls pen.fold.stage (left_of pen.fold) old left))
      → (keeps new → OnErr r (FailsHomeCall pen.fold.stage (left_of pen.fold) old left)) → keeps new
      → LeavesOnly old left OpensSo
  home_leaves r done failed model =
      let m = tick.back model in
      leaves_at m pen.fold.stage tick.calls tick.sound.fold.counts (tick.sound.fold.homes m tick.going)
      (tick.sound.job.knows m) r (done m) (failed model)

  -- ---- what is known behind the call

  done_at : (m : keeps pen.disk) (stage : FoldStage) → has_call stage ≡ true → AtStage pen.fold stage
      → HomesAt pen.shape frames vector pen.fold (now old) stage
      → KnowsSo (open_count stage pen.fold.count) pen.broken (now old) → IsImage (now left) (bytes_of left)
      → HomeCalls stage (left_of pen.fold) old left → KnowsSo (open_count (stage_after stage) pen.fold.count) pen.broken (now left)
  done_at m stages.None calls at homes k readable call = absurd cc
  done_at m Ready calls at homes k readable call = absurd cc
  done_at m Filed calls at homes k readable call = absurd cc
  done_at m (Home n) calls at homes k readable call =
      let w = first_write (left_of pen.fold) in
      let into = (next_write m n at homes).into_homes.0 in
      let made : now left ≡ written (now old) w.place w.bytes = ap now call in
      subst (λ c. KnowsSo c pen.broken (now left)) (sym (home_count n pen.fold.count)) (subst (λ t. KnowsSo pen.fold.count pen.broken t) (sym made)
      (written_knows pen.fold.count (log_of pen) frames vector (now old) (tick.reads pen.disk m) w.place w.bytes into.below_gate into.folded pen.step pen.broken
      (later w.place w.bytes into.below_gate into.folded pen.fold.count k pen.step unfiled m) k tick.going
      (subst (λ t. IsImage t t.seen) made readable)))
  done_at m Sync calls at homes k readable call =
      let made : now left ≡ settled (bytes_of old) = ap now call in
      subst (λ t. KnowsSo 0 pen.broken t) (sym made)
      (synced_knows 0 (log_of pen) frames vector (now old) (tick.reads pen.disk m) pen.fold.count pen.step pen.broken k tick.going)

  failed_at : (m : keeps pen.disk) (stage : FoldStage) → has_call stage ≡ true → AtStage pen.fold stage
      → HomesAt pen.shape frames vector pen.fold (now old) stage
      → KnowsSo (open_count stage pen.fold.count) pen.broken (now old) → IsImage (now left) (bytes_of left)
      → FailsHomeCall stage (left_of pen.fold) old left → KnowsSo (open_count stage pen.fold.count) true (now left)
  failed_at m stages.None calls at homes k readable call = absurd cc
  failed_at m Ready calls at homes k readable call = absurd cc
  failed_at m Filed calls at homes k readable call = absurd cc
  failed_at m (Home n) calls at homes k readable call =
      let w = first_write (left_of pen.fold) in
      let into = (next_write m n at homes).into_homes.0 in
      let made : now left ≡ call.0 = ap now call.1 in
      subst (λ t. KnowsSo pen.fold.count true t) (sym made)
      (torn_knows pen.fold.count (log_of pen) frames vector (now old) (tick.reads pen.disk m) w.place w.bytes into.below_gate into.folded pen.step pen.broken
      (later w.place w.bytes into.below_gate into.folded pen.fold.count k pen.step unfiled m) k tick.going call.0 call.2
      (subst (λ t. IsImage t t.seen) made readable))
  failed_at m Sync calls at homes k readable call =
      let made : now left ≡ now old = ap now call in
      subst (λ t. KnowsSo pen.fold.count true t) (sym made)
      (same_knows 0 (log_of pen) frames vector (now old) (tick.reads pen.disk m) pen.fold.count pen.step pen.broken k)

  -- the frames and the vector are read as they were
  again : (n : ℕ) (b : Bool) → (keeps new → KnowsSo n b (now left))
      → IsPen n (keeps new) left (record (log_of pen) { broken = b }) pen.next
  again n b made = record {
    wide = tick.sound.job.wide;
    gate_fits = tick.sound.job.gate_fits;
    size_fits = tick.sound.job.size_fits;
    changes_fit = tick.sound.job.changes_fit;
    folded_counted = tick.sound.job.folded_counted;
    job = tick.sound.job.job;
    knows = λ model. (
        let k = made model in
        let seen = seen_as pen.shape pen.gate frames vector (bytes_of left) k.gate_is k.file.holds in
        let log : PenLog = record (log_of pen) { broken = b } in
        subst (λ fs. Knows n log fs (vector_read left log) (now left)) (sym seen.frames_are)
        (subst (λ v. Knows n log frames v (now left)) (sym seen.vector_is) k));
  }

  stays : (n : ℕ) (b : Bool) → (keeps new → KnowsSo n b (now left)) → keeps new → FileStays old left (log_of pen)
  stays n b made model =
      let k = made model in
      let seen = seen_as pen.shape pen.gate frames vector (bytes_of left) k.gate_is k.file.holds in
      record { frames_same = seen.frames_are; vector_same = seen.vector_is }

  -- ---- a call that failed

  module _ (fails : keeps new → FailsHomeCall pen.fold.stage (left_of pen.fold) old left) where
    broken_knows : keeps new → KnowsSo (open_count pen.fold.stage pen.fold.count) true (now left)
    broken_knows model =
        let m = tick.back model in
        failed_at m pen.fold.stage tick.calls tick.sound.fold.counts (tick.sound.fold.homes m tick.going)
        (tick.sound.job.knows m) (tick.reads new model) (fails model)

    broken_job : IsPen (open_count pen.fold.stage pen.fold.count) (keeps new) left (record (log_of pen) { broken = true }) pen.next
    broken_job = again (open_count pen.fold.stage pen.fold.count) true broken_knows

    pub broken_stays : keeps new → FileStays old left (log_of pen)
    broken_stays = stays (open_count pen.fold.stage pen.fold.count) true broken_knows

    -- the pen is broken
    pub home_broken : IsSoundPen keeps states (record pen { disk = new; broken = true })
    home_broken = record {
      job = broken_job;
      lists = listed_stays tick.sound.lists (keeps new) left pen.step true refl tick.back broken_stays;
      fold = fold_broken tick.sound.fold tick.back left;
    }

  -- ---- one that succeeded

  module _ (call : keeps pen.disk → HomeCalls pen.fold.stage (left_of pen.fold) old left) where
    called_knows : keeps new → KnowsSo (open_count (stage_after pen.fold.stage) pen.fold.count) pen.broken (now left)
    called_knows model =
        let m = tick.back model in
        done_at m pen.fold.stage tick.calls tick.sound.fold.counts (tick.sound.fold.homes m tick.going)
        (tick.sound.job.knows m) (tick.reads new model) (call m)

    called_job : IsPen (open_count (advanced pen.fold).stage (advanced pen.fold).count) (keeps new) left (log_of pen) pen.next
    called_job = again (open_count (stage_after pen.fold.stage) pen.fold.count) pen.broken called_knows

    pub called_stays : keeps new → FileStays old left (log_of pen)
    called_stays = stays (open_count (stage_after pen.fold.stage) pen.fold.count) pen.broken called_knows

    waits : (fold' : Fold) → fold'.count ≡ pen.fold.count → fold'.writes ≡ pen.fold.writes → fold'.bytes ≡ pen.fold.bytes
        → fold'.frame ≡ pen.fold.frame → IsUnfiled pen.shape pen.gate pen.tally pen.bytes.items pen.step pen.fold
        → IsUnfiled pen.shape pen.gate pen.tally pen.bytes.items pen.step fold'
    waits fold' count writes held frame w =
        let live = w.live in
        let upto = w.upto in
        record {
          live = omega arith;
          upto = omega arith;
          planned =
              subst (λ ws. AllByRecursion (IsPlanned pen.gate (length fold'.bytes.items)) ws.items) (sym writes)
              (subst (λ bs. AllByRecursion (IsPlanned pen.gate (length bs.items)) pen.fold.writes.items) (sym held)
              w.planned);
          spelled = ap (λ f. f.items) frame ∙ w.spelled ∙ ap (λ n. kinds.frame_text pen.shape.format (kinds.Fold n) ++ 0 ∷ []) (sym count);
          room = w.room;
        }

    counts_at : (stage : FoldStage) → has_call stage ≡ true → AtStage pen.fold stage → (fold' : Fold)
        → fold'.count ≡ pen.fold.count → fold'.writes ≡ pen.fold.writes → fold'.bytes ≡ pen.fold.bytes
        → fold'.frame ≡ pen.fold.frame → fold'.done ≡ done_after stage pen.fold.done
        → AtStage fold' (stage_after stage)
    counts_at stages.None calls at fold' count writes held frame done = absurd cc
    counts_at Ready calls at fold' count writes held frame done = absurd cc
    counts_at Filed calls at fold' count writes held frame done = absurd cc
    counts_at (Home n) calls at fold' count writes held frame done =
        let long = ap (λ ws. length ws.items) writes in
        let more = at.1 in
        let some = at.2 in
        elim (cases_Bool (nat_lt 1 n)) [
          | inl
              more' ↦ (let lt = ltb-true 1 n more' in
              subst (λ b. AtStage fold' (cond b (Home (n - 1)) Sync)) (sym more')
              (waits fold' count writes held frame at.0, omega arith, omega arith))
          | inr
              last ↦ (let le = ltb-false 1 n last in
              subst (λ b. AtStage fold' (cond b (Home (n - 1)) Sync)) (sym last)
              (waits fold' count writes held frame at.0, omega arith))
        ]
    counts_at Sync calls at fold' count writes held frame done =
        (waits fold' count writes held frame at.0, done ∙ at.1 ∙ sym (ap (λ ws. length ws.items) writes))

    folding_behind : (n : ℕ) (fs : List Frame) (v : List (List ℕ)) (fold' : Fold) (t : State)
        → IsFolding pen.shape fold'.count fs v (left_of fold') t → HomesAt pen.shape fs v fold' t (stage_after (Home n))
    folding_behind n fs v fold' t is = elim (cases_Bool (nat_lt 1 n)) [
      | inl more' ↦ subst (λ b. HomesAt pen.shape fs v fold' t (cond b (Home (n - 1)) Sync)) (sym more') is
      | inr last ↦ subst (λ b. HomesAt pen.shape fs v fold' t (cond b (Home (n - 1)) Sync)) (sym last) is
    ]

    homes_at : (m : keeps pen.disk) (stage : FoldStage) → has_call stage ≡ true → AtStage pen.fold stage
        → HomesAt pen.shape frames vector pen.fold (now old) stage → HomeCalls stage (left_of pen.fold) old left
        → HomesAt pen.shape frames vector
        (record {
          stage = stage_after stage;
          count = pen.fold.count;
          runs = pen.fold.runs;
          writes = pen.fold.writes;
          done = done_after stage pen.fold.done;
          bytes = pen.fold.bytes;
          frame = pen.fold.frame;
        })
        (now left) (stage_after stage)
    homes_at m stages.None calls at homes call = absurd cc
    homes_at m Ready calls at homes call = absurd cc
    homes_at m Filed calls at homes call = absurd cc
    homes_at m (Home n) calls at homes call =
        let w = first_write (left_of pen.fold) in
        folding_behind n frames vector
        (record {
          stage = stage_after (Home n);
          count = pen.fold.count;
          runs = pen.fold.runs;
          writes = pen.fold.writes;
          done = pen.fold.done + 1;
          bytes = pen.fold.bytes;
          frame = pen.fold.frame;
        })
        (now left)
        (subst (λ t. IsFolding pen.shape pen.fold.count frames vector (rest_of pen.fold) t) (sym (ap now call))
        (folding_written pen.shape pen.fold.count frames vector w (rest_of pen.fold) (now old) (next_write m n at homes)))
    homes_at m Sync calls at homes call =
        folding_seen pen.shape pen.fold.count frames vector (left_of pen.fold) (now old) (now left) (sym (ap bytes_of call))
        homes

    called_fold : HasFold (keeps new) left (log_of pen) (advanced pen.fold)
    called_fold = record {
      counts = counts_at pen.fold.stage tick.calls tick.sound.fold.counts (advanced pen.fold) refl refl refl refl refl;
      homes = λ model whole'. (
          let m = tick.back model in
          let same = called_stays model in
          let stage = stage_after pen.fold.stage in
          subst (λ fs. HomesAt pen.shape fs (vector_read left (log_of pen)) (advanced pen.fold) (now left) stage) (sym same.frames_same)
          (subst (λ v. HomesAt pen.shape frames v (advanced pen.fold) (now left) stage) (sym same.vector_same)
          (homes_at m pen.fold.stage tick.calls tick.sound.fold.counts (tick.sound.fold.homes m tick.going) (call m))));
    }

    -- the fold goes on
    pub home_called : IsSoundPen keeps states (record pen { disk = new; fold = advanced pen.fold })
    home_called = record {
      job = called_job;
      lists = listed_called tick.calls (listed_stays tick.sound.lists (keeps new) left pen.step pen.broken refl tick.back called_stays);
      fold = called_fold;
    }
