-- A tick of the log that makes the job's call, by the fields of the pen.
use Rattle.std.proofs.Common.{◌≡◌, ℕ, ◌+◌, ◌-◌, ◌≤◌, ◌^◌, Bool, true, false, List, [], ◌∷◌, length, Option, Some, None, Result, Ok, Err, OnOk, OnErr, refl, sym, ap, subst, ◌∙◌, arith}
use Rattle.std.specs.Prelude.{IfSome}
use Rattle.std.specs.Option.{option_map}
use Rattle.std.proofs.lemmas.List.{length-append}
use Rattle.disk_core.specs.declared.fault.DiskFault.{DiskFault}
use Rattle.disk_core.specs.State.{State, now, settled, IsImage}
use Rattle.disk_core.specs.Calls.{bytes_of}
use Rattle.disk_core.specs.Moments.{LeavesOnly}
use Rattle.segment_core.specs.Frame.{Frame, frame_text}
use Rattle.segment_core.specs.Raw.{after_frame}
use Rattle.segment_core.specs.Tally.{after, tally_of, AreLegal}
use Rattle.segment_core.proofs.Payload.{length-frame_text}
use Rattle.pen_core.specs.declared.pen.Pen.TheInside.{Inside}
use Rattle.pen_core.specs.declared.step.PenStep.{PenStep}
use Rattle.pen_core.specs.Fields.{log_of, count_open, IsSoundPen}
use Rattle.pen_core.specs.Held.{HoldsFrames, gate_of}
use Rattle.pen_core.specs.InHand.{frame_in_hand}
use Rattle.pen_core.specs.Inside.{job_of, IsJob, IsMaybeJob, IsAtStep, Knows, IsPen}
use Rattle.pen_core.specs.Known.{IsFileOf, IsShut}
use Rattle.pen_core.specs.Call.{Call, Makes, Fails}
use Rattle.pen_core.specs.Pen.{OpensWith, job_bytes}
use Rattle.pen_core.specs.Step.{step_after, call_at, Calls, FailsCall}
use Rattle.pen_core.specs.PenLog.{PenLog, frames_read, vector_read, job_over}
use Rattle.pen_core.specs.Vectors.{frame_at, frames_with}
use Rattle.pen_core.proofs.Begun.{held_legal}
use Rattle.pen_core.proofs.Folds.{LaidAlike}
use Rattle.pen_core.proofs.InHand.{fold_broken, fold_stays}
use Rattle.pen_core.proofs.Listed.{listed_stays}
use Rattle.pen_core.proofs.Parsed.{SeenAs, seen_as}
use Rattle.pen_core.proofs.Pens.{tally_with, gate_with, knows_rest, knows_at, knows_broken}
use Rattle.pen_core.proofs.Ticks.{StandsAt, Failed, tick_leaves, tick_next, tick_done, tick_failed}
use Rattle.pen_core.proofs.Whole.{FileStays, after_size, after_changes, after_folded, calls_alike, last_step}

-- What a tick knows that makes the call: the bytes are those that it was given. Each disk that keeps the model reads as
-- an image.
pub record LogCall {D : Type 0} (keeps : D → Type 0) (states : D → List State) (pen : Inside D) (new : D) (step : PenStep) : Type 0 where
  pub sound : IsSoundPen keeps states pen
  pub going : pen.broken ≡ false
  pub is : pen.step ≡ Some step
  pub given : List ℕ
  pub value : given ≡ pen.bytes.items
  pub back : keeps new → keeps pen.disk
  pub reads : (disk : D) → keeps disk → IsImage (now (states disk)) (bytes_of (states disk))

abbrev pub log_call : {D : Type 0} {keeps : D → Type 0} {states : D → List State} {pen : Inside D} {new : D} {step : PenStep} {given : List ℕ}
    → IsSoundPen keeps states pen → pen.broken ≡ false → pen.step ≡ Some step → given ≡ pen.bytes.items → (keeps new → keeps pen.disk)
    → ((disk : D) → keeps disk → IsImage (now (states disk)) (bytes_of (states disk))) → LogCall keeps states pen new step
log_call {D} {keeps} {states} {pen} {new} {step} {given} sound going is value back reads =
    record { sound = sound; going = going; is = is; given = given; value = value; back = back; reads = reads }

module _ {D : Type 0} {keeps : D → Type 0} {states : D → List State} {pen : Inside D} {new : D} {step : PenStep}
    (tick : LogCall keeps states pen new step) where
  abbrev old : List State
  old = states pen.disk

  abbrev left : List State
  left = states new

  abbrev Called : Type 0
  Called = Calls step pen.gate tick.given old left

  abbrev FailsSo : Type 0
  FailsSo = FailsCall step pen.gate tick.given old left

  abbrev frames : List Frame
  frames = frames_read old (log_of pen)

  abbrev vector : List (List ℕ)
  vector = vector_read old (log_of pen)

  abbrev frame : Frame
  frame = frame_at pen.shape pen.bytes.items

  abbrev following : List Frame
  following = frames_with frames frame

  abbrev then : List (List ℕ)
  then = after_frame pen.shape.width vector frame

  abbrev p : ℕ
  p = gate_of pen.shape frames

  abbrev KnowsAs : List Frame → List (List ℕ) → Option PenStep → Bool → State → Type 0
  KnowsAs fs cells due broken s = Knows (count_open pen) (record (log_of pen) { step = due; broken = broken }) fs cells s

  abbrev At : ℕ → PenStep → State → Type 0
  At gate due s = IsAtStep pen.shape (count_open pen) gate frames following then pen.bytes.items due s

  job : IsJob pen.shape pen.gate pen.tally pen.next pen.bytes.items
  job = subst (λ s. IsMaybeJob pen.shape pen.gate pen.tally pen.next pen.bytes.items s) tick.is tick.sound.job.job

  pub counts_after : pen.next ≡ after pen.tally frame
  counts_after = job.next_is

  knows : keeps pen.disk → KnowsAs frames vector (Some step) pen.broken (now old)
  knows model = subst (λ s. KnowsAs frames vector s pen.broken (now old)) tick.is (tick.sound.job.knows model)

  at : (model : keeps pen.disk) → At p step (now old)
  at model = subst (λ g. At g step (now old)) (knows model).gate_is ((knows model).stands tick.going)

  -- the call is the one that is due
  abbrev DueAt : Option PenStep → (Call → Type 0) → Type 0
  DueAt due made = IfSome (option_map (λ job. call_at job.step pen.gate (job_bytes pen.shape job)) (job_of pen.shape pen.bytes.items due)) made

  pub log_calls : Called → DueAt pen.step (λ call. Makes call old left)
  log_calls call =
      subst (λ due. DueAt due (λ call. Makes call old left)) (sym tick.is)
      (subst (λ bs. Makes (call_at step pen.gate bs) old left) (tick.value ∙ job.spelled) call)

  pub log_fails : FailsSo → DueAt pen.step (λ call. Fails call old left)
  log_fails call =
      subst (λ due. DueAt due (λ call. Fails call old left)) (sym tick.is)
      (subst (λ bs. Fails (call_at step pen.gate bs) old left) (tick.value ∙ job.spelled) call)

  at_gate : (model : keeps pen.disk) → Called → Calls step p pen.bytes.items old left
  at_gate model call = subst (λ g. Calls step g pen.bytes.items old left) (knows model).gate_is (subst (λ b. Calls step pen.gate b old left) tick.value call)

  fails_at_gate : (model : keeps pen.disk) → FailsSo → FailsCall step p pen.bytes.items old left
  fails_at_gate model call =
      subst (λ g. FailsCall step g pen.bytes.items old left) (knows model).gate_is
      (subst (λ b. FailsCall step pen.gate b old left) tick.value call)

  on_ok : {T : Type 0} {A B : Type 0} (r : Result T DiskFault) → (A → B) → OnOk r A → OnOk r B
  on_ok (Ok value) f a = f a
  on_ok (Err error) f a = tt

  on_err : {T : Type 0} {A B : Type 0} (r : Result T DiskFault) → (A → B) → OnErr r A → OnErr r B
  on_err (Ok value) f a = tt
  on_err (Err error) f a = f a

  pub log_leaves : {T : Type 0} (r : Result T DiskFault) → (keeps pen.disk → OnOk r Called) → (keeps new → OnErr r FailsSo)
      → keeps new → LeavesOnly old left (OpensWith pen.shape frames vector (job_of pen.shape pen.bytes.items pen.step))
  log_leaves r done failed model =
      let m = tick.back model in
      subst (λ s. LeavesOnly old left (OpensWith pen.shape frames vector (job_of pen.shape pen.bytes.items s))) (sym tick.is)
      (tick_leaves pen.shape (count_open pen) frames following vector then pen.bytes.items step old left r (knows m).file
      (at m) (tick.reads pen.disk m) (on_ok r (at_gate m) (done m)) (on_err r (fails_at_gate m) (failed model)))

  pub tally_now : keeps pen.disk → pen.tally ≡ tally_of frames
  tally_now m = (knows m).tally_is

  -- the frames keep the rules
  pub legal_now : keeps pen.disk → AreLegal pen.shape frames
  legal_now m = held_legal pen.shape frames vector (bytes_of old) (knows m).file.holds

  -- ---- that failed

  failed : (model : keeps new) → FailsSo → Failed pen.shape (count_open pen) frames following vector then pen.bytes.items step (now left)
  failed model call =
      let m = tick.back model in
      tick_failed pen.shape (count_open pen) frames following vector then pen.bytes.items step old left (knows m).file (at m)
      (tick.reads pen.disk m) (tick.reads new model) (fails_at_gate m call)

  failed_seen : (model : keeps new) → FailsSo → SeenAs pen.shape pen.gate frames vector (bytes_of left)
  failed_seen model call = seen_as pen.shape pen.gate frames vector (bytes_of left) (knows (tick.back model)).gate_is (failed model call).file.holds

  broken_job : (keeps new → FailsSo) → IsPen (count_open pen) (keeps new) left (record (log_of pen) { broken = true }) pen.next
  broken_job call = record {
    wide = tick.sound.job.wide;
    gate_fits = tick.sound.job.gate_fits;
    size_fits = tick.sound.job.size_fits;
    changes_fit = tick.sound.job.changes_fit;
    folded_counted = tick.sound.job.folded_counted;
    job = tick.sound.job.job;
    knows = λ model. (
        let seen = failed_seen model (call model) in
        let k = knows (tick.back model) in
        let made : KnowsAs frames vector pen.step true (now left) =
        subst (λ s. KnowsAs frames vector s true (now left)) (sym tick.is)
        (knows_broken (log_of pen) frames vector (now left) k.gate_is k.tally_is step (failed model (call model))) in
        subst (λ fs. KnowsAs fs (vector_read left (log_of pen)) pen.step true (now left))
        (sym seen.frames_are) (subst (λ v. KnowsAs frames v pen.step true (now left)) (sym seen.vector_is) made));
  }

  pub broken_file : (keeps new → FailsSo) → keeps new → FileStays old left (log_of pen)
  broken_file call model = let seen = failed_seen model (call model) in record { frames_same = seen.frames_are; vector_same = seen.vector_is }

  -- the pen is broken
  pub log_broken : (keeps new → FailsSo) → IsSoundPen keeps states (record pen { disk = new; broken = true })
  log_broken call = record {
    job = broken_job call;
    lists = listed_stays tick.sound.lists (keeps new) left pen.step true refl tick.back (broken_file call);
    fold = fold_broken tick.sound.fold tick.back left;
  }

  -- ---- that succeeded

  module _ (call : keeps pen.disk → Called) where
    went_on : (behind : PenStep) → step_after step ≡ Some behind → keeps new
        → StandsAt pen.shape (count_open pen) frames following vector then pen.bytes.items behind (now left)
    went_on behind after_it model =
        let m = tick.back model in
        tick_next pen.shape (count_open pen) frames following vector then pen.bytes.items step old left
        (knows m).file (at m) (tick.reads pen.disk m) (at_gate m (call m)) behind after_it

    next_seen : (behind : PenStep) → step_after step ≡ Some behind → keeps new → SeenAs pen.shape pen.gate frames vector (bytes_of left)
    next_seen behind after_it model =
        seen_as pen.shape pen.gate frames vector (bytes_of left) (knows (tick.back model)).gate_is (went_on behind after_it model).file.holds

    -- below the gate no byte changes
    pub bytes_alike : keeps new → LaidAlike p (bytes_of old) (bytes_of left)
    bytes_alike model =
        let m = tick.back model in
        calls_alike step p pen.bytes.items old left
        (omega (arith, (knows m).file.gate_synced, (tick.reads pen.disk m).no_shorter)) (at_gate m (call m))

    next_job : (behind : PenStep) → step_after step ≡ Some behind
        → IsPen (count_open pen) (keeps new) left (record (log_of pen) { step = Some behind }) pen.next
    next_job behind after_it = record {
      wide = tick.sound.job.wide;
      gate_fits = tick.sound.job.gate_fits;
      size_fits = tick.sound.job.size_fits;
      changes_fit = tick.sound.job.changes_fit;
      folded_counted = tick.sound.job.folded_counted;
      job = job;
      knows = λ model. (
          let m = tick.back model in
          let k = knows m in
          let seen = next_seen behind after_it model in
          let stands = went_on behind after_it model in
          let at' : At pen.gate behind (now left) = subst (λ g. At g behind (now left)) (sym k.gate_is) stands.at in
          let made : KnowsAs frames vector (Some behind) pen.broken (now left) =
          knows_at (log_of pen) frames vector (now left) k.gate_is k.tally_is behind stands.file at' (tick.reads new model) in
          subst (λ fs. KnowsAs fs (vector_read left (log_of pen)) (Some behind) pen.broken (now left))
          (sym seen.frames_are)
          (subst (λ v. KnowsAs frames v (Some behind) pen.broken (now left)) (sym seen.vector_is) made));
    }

    pub next_file : (behind : PenStep) → step_after step ≡ Some behind → keeps new → FileStays old left (log_of pen)
    next_file behind after_it model = let seen = next_seen behind after_it model in record { frames_same = seen.frames_are; vector_same = seen.vector_is }

    -- the next call is due
    pub log_next : (behind : PenStep) → step_after step ≡ Some behind → IsSoundPen keeps states (record pen { disk = new; step = Some behind })
    log_next behind after_it =
        let stays = next_file behind after_it in
        record {
          job = next_job behind after_it;
          lists =
              listed_stays tick.sound.lists (keeps new) left (Some behind) pen.broken
              (sym (ap (frame_in_hand pen.shape pen.bytes.items) tick.is)) tick.back stays;
          fold = fold_stays tick.sound.fold tick.back left step behind tick.is (λ model. legal_now (tick.back model)) bytes_alike
              (λ model. (stays model).frames_same) (λ model. (stays model).vector_same);
        }

    module _ (gate : ℕ) (moved : gate ≡ pen.gate + (length tick.given - 1)) (last : step_after step ≡ None) where
      -- the bytes end with the next gate
      pub gate_moved : gate ≡ pen.gate + length (frame_text pen.shape.format frame)
      gate_moved =
          let all = ap length (tick.value ∙ job.spelled) ∙ length-append (frame_text pen.shape.format frame) (0 ∷ []) in
          omega arith

      next_gate : keeps pen.disk → gate ≡ gate_of pen.shape following
      next_gate m = gate_moved ∙ ap (λ g. g + length (frame_text pen.shape.format frame)) (knows m).gate_is ∙ sym (gate_with pen.shape frames frame)

      ended : keeps new → IsFileOf pen.shape (count_open pen) following then (now left) × IsShut (gate_of pen.shape following) (now left)
      ended model =
          let m = tick.back model in
          tick_done pen.shape (count_open pen) frames following vector then pen.bytes.items step old left
          (at m) (tick.reads pen.disk m) (at_gate m (call m)) last

      done_seen : keeps new → SeenAs pen.shape gate following then (bytes_of left)
      done_seen model = seen_as pen.shape gate following then (bytes_of left) (next_gate (tick.back model)) (ended model).0.holds

      pub settles_now : keeps new → now left ≡ settled (bytes_of old)
      settles_now model = let m = tick.back model in ap now (subst (λ st. Calls st p pen.bytes.items old left) (last_step step last) (at_gate m (call m)))

      pub holds_now : keeps new → HoldsFrames pen.shape frames vector (bytes_of old)
      holds_now model = (knows (tick.back model)).file.holds

      -- the job's frame stands already
      pub holds_next : keeps new → HoldsFrames pen.shape following then (bytes_of old)
      holds_next model = subst (λ s. HoldsFrames pen.shape following then s.seen) (settles_now model) (ended model).0.holds

      pub more_frames : keeps new → frames_read left (job_over (log_of pen) gate pen.next) ≡ following
      more_frames model = (done_seen model).frames_are

      pub vector_then : keeps new → vector_read left (job_over (log_of pen) gate pen.next) ≡ then
      vector_then model = (done_seen model).vector_is

      pub done_job : IsPen (count_open pen) (keeps new) left (job_over (log_of pen) gate pen.next) pen.next
      done_job =
          let may = job.may_follow in
          let size = after_size pen.tally frame tick.sound.job.size_fits may in
          let changes = after_changes pen.tally frame in
          let folded = after_folded pen.tally frame tick.sound.job.folded_counted may in
          let counted = job.next_is in
          let fits = job.fits in
          let long = length-frame_text pen.shape.format frame in
          let same = ap length tick.value in
          let few = tick.sound.job.changes_fit in
          let moved' = gate_moved in
          record {
            wide = tick.sound.job.wide;
            gate_fits = omega arith;
            size_fits = subst (λ t. t.size ≤ 2 ^ 32) (sym counted) size;
            changes_fit = subst (λ t. t.changes ≤ gate) (sym counted) (omega arith);
            folded_counted = subst (λ t. t.folded ≤ t.changes) (sym counted) folded;
            job = tt;
            knows = λ model. (
                let m = tick.back model in
                let k = knows m in
                let seen = done_seen model in
                let done = ended model in
                let tally_is : pen.next ≡ tally_of following = counted ∙ ap (λ t. after t frame) k.tally_is ∙ sym (tally_with frames frame) in
                let log : PenLog = job_over (log_of pen) gate pen.next in
                let made : Knows (count_open pen) log following then (now left) =
                knows_rest log following then (now left) (next_gate m) tally_is done.0
                (subst (λ g. IsShut g (now left)) (sym (next_gate m)) done.1) (tick.reads new model) in
                subst (λ fs. Knows (count_open pen) log fs (vector_read left log) (now left)) (sym seen.frames_are)
                (subst (λ v. Knows (count_open pen) log following v (now left)) (sym seen.vector_is) made));
          }
