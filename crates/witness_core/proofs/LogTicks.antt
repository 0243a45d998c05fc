-- What a tick of the log leaves a reader.
use Rattle.std.proofs.Common.{◌≡◌, ℕ, ◌+◌, ◌-◌, ◌≤◌, ◌<◌, true, false, List, [], ◌∷◌, ◌++◌, length, get_or, Option, Some, None, Result, Ok, Err, refl, sym, ap, subst, ◌∙◌, arith, inl, inr}
use Rattle.std.specs.Prelude.{◌≢◌, ◌⊎◌, IfSome, MatchResult, IfOk, IfErr, OnErr, OnOk}
use Rattle.std.specs.Option.{option_map}
use Rattle.std.proofs.lemmas.Bool.{cases_order}
use Rattle.disk_core.specs.State.{State, now, IsImage, IsTornWrite}
use Rattle.disk_core.specs.Calls.{bytes_of, AddsMoment, Writes, Settles}
use Rattle.segment_core.specs.Frame.{Frame, frame_text, text}
use Rattle.segment_core.specs.Frame as frames
use Rattle.segment_core.specs.Tally.{AreLegal}
use Rattle.pen_core.specs.declared.step.PenStep.{PenStep}
use Rattle.pen_core.specs.declared.step.PenStep.TheVariants.{Body, BodySync, Gate, GateSync}
use Rattle.pen_core.specs.declared.stage.Ticked.{Ticked}
use Rattle.pen_core.specs.declared.stage.Ticked.TheVariants as ticks
use Rattle.pen_core.specs.declared.fault.PenFault.{PenFault}
use Rattle.pen_core.specs.Call.{Call, Makes, Fails}
use Rattle.pen_core.specs.Step.{step_after, call_at, body_of}
use Rattle.pen_core.specs.PenOf.{PenOf, JobOf, FoldOf, HomeWrite}
use Rattle.pen_core.specs.Pen.{IsKept, CountsSame, CountsDone, FileSame, FileGains, FileTicked, IsTicked, IsTickFault, LogTickCalls, LogTickFails, job_bytes, fold_behind}
use Rattle.pen_core.specs.Vectors.{frames_with}
use Rattle.pen_core.proofs.Overlaid.{overlaid}
use Rattle.pen_core.proofs.Held.{opened_at}
use Rattle.witness_core.specs.Shown.{ShowsFrames, OpensGate}
use Rattle.witness_core.specs.Witnessed.{HasBody, ShowsAtStep, ShowsInTurn, EndBelow, HomesEndBelow, WitnessStart, IsWitnessed}
use Rattle.witness_core.proofs.Moments.{newest_shown}
use Rattle.witness_core.proofs.CallBytes.{adds, written_torn, failed_torn, tears_adds}
use Rattle.witness_core.proofs.LogBytes.{shows_behind_body, shows_shut, shows_opened, opens_gate}
use Rattle.witness_core.proofs.KeptFile.{written_gate, gate_there, legal_opened, all_blanked_push}
use Rattle.witness_core.proofs.Witnessed.{shown_on, witnessed_as, one_came}

-- ---- homes end below a later gate too

end_below_later : (gate later : ℕ) (left : List HomeWrite) → gate ≤ later → EndBelow gate left → EndBelow later left
end_below_later gate later [] le below = tt
end_below_later gate later (write ∷ left) le below = (let first = below.0 in omega (arith, le), end_below_later gate later left le below.1)

homes_later : (gate later : ℕ) (fold : Option FoldOf) → gate ≤ later → HomesEndBelow gate fold → HomesEndBelow later fold
homes_later gate later None le below = tt
homes_later gate later (Some fold) le below = end_below_later gate later fold.left le below

homes_behind : (gate : ℕ) (frame : Frame) (fold : Option FoldOf) → HomesEndBelow gate fold → HomesEndBelow gate (fold_behind frame fold)
homes_behind gate (frames.Group lengths bytes) fold below = below
homes_behind gate (frames.Change runs bytes) fold below = below
homes_behind gate (frames.Shrink n) fold below = below
homes_behind gate (frames.Fold count) fold below = tt

job_of_fields : (job : JobOf) → job ≡ record { frame = job.frame; step = job.step }
job_of_fields job = refl

module _ {D : Type 0} (states : D → List State) (from : WitnessStart) (old new : PenOf D) (w : IsWitnessed from (states old.disk) old)
    (was_readable : IsImage (now (states old.disk)) (bytes_of (states old.disk))) (readable : IsImage (now (states new.disk)) (bytes_of (states new.disk)))
    (kept : IsKept (states new.disk) new) where
  abbrev before : List State
  before = states old.disk

  abbrev after : List State
  after = states new.disk

  gate_is : old.gate ≡ length (text old.shape w.written)
  gate_is = written_gate before old w.kept w.written w.written_as

  there : old.gate < length (bytes_of before)
  there = gate_there before old w.kept w.written w.written_as (bytes_of before) was_readable

  shows_before : ShowsFrames old.shape w.shown (bytes_of before)
  shows_before = newest_shown old.shape _ before w.shown w.has_shown

  shows_written : w.shown ≡ w.written → ShowsFrames old.shape w.written (bytes_of before)
  shows_written same = subst (λ fs. ShowsFrames old.shape fs (bytes_of before)) same shows_before

  same_pen : new ≡ old → IsWitnessed from after new
  same_pen same = subst (λ (pen : PenOf D). IsWitnessed from (states pen.disk) pen) (sym same) w

  -- ---- a call for a job

  module _ (frame : Frame) (counts : CountsSame old new) (file : FileSame old new) where
    abbrev at : PenStep → JobOf
    at step = record { frame = frame; step = step }

    -- the pen behind it
    made : (step : PenStep) (shown : List Frame) → new.job ≡ Some (at step) → AddsMoment before after → ShowsFrames old.shape shown (bytes_of after)
        → (shown ≡ w.shown) ⊎ OpensGate old.shape w.shown shown (bytes_of before) (bytes_of after) → (shown ≡ w.written) ⊎ (shown ≡ w.written ++ frame ∷ [])
        → (new.broken ≡ false → ShowsAtStep old.shape old.gate w.written shown (at step) (bytes_of after) step) → IsWitnessed from after new
    made step shown job_is moment shows call either in_turn =
        witnessed_as from after new kept old.shape old.gate old.frames old.vector (Some (at step))
        counts.shape_same counts.gate_same file.frames_same file.vector_same job_is w.wide w.written shown w.written_as
        w.have_come
        (shown_on old.shape from.clock_was before after w.shown shown w.begun moment w.has_shown shows call) either in_turn
        (subst (HomesEndBelow old.gate) (sym counts.fold_same) w.homes_below)

    -- nothing has changed
    unchanged : (step : PenStep) → new.job ≡ Some (at step) → AddsMoment before after → bytes_of after ≡ bytes_of before → (w.shown ≡ w.written) ⊎ (w.shown ≡ w.written ++ frame ∷ [])
        → (new.broken ≡ false → ShowsAtStep old.shape old.gate w.written w.shown (at step) (bytes_of after) step) → IsWitnessed from after new
    unchanged step job_is moment bytes either in_turn =
        made step w.shown job_is moment (subst (ShowsFrames old.shape w.shown) (sym bytes) shows_before) (inl refl) either in_turn

    -- a body was written
    behind_body : (step : PenStep) (len : ℕ) → new.job ≡ Some (at step) → AddsMoment before after → IsTornWrite (old.gate + 1) len (now before) (now after) → w.shown ≡ w.written
        → (new.broken ≡ false → ShowsAtStep old.shape old.gate w.written w.written (at step) (bytes_of after) step) → IsWitnessed from after new
    behind_body step len job_is moment torn closed in_turn =
        made step w.written job_is moment
        (shows_behind_body old.shape w.written (at step) (now before) (now after) old.gate gate_is there (shows_written closed) len torn) (inl (sym closed)) (inl refl) in_turn

    has_body : Writes (old.gate + 1) (body_of (job_bytes old.shape (at Body))) before after → HasBody old.shape old.gate (at Body) (bytes_of after)
    has_body wrote i lt =
        let inside = there in
        let here : old.gate + 1 + i - (old.gate + 1) ≡ i = omega arith in
        let body : List ℕ = body_of (job_bytes old.shape (at Body)) in
        ap (λ ss. get_or (now ss).seen (old.gate + 1 + i) 0) wrote
        ∙ overlaid (bytes_of before) (old.gate + 1) body (old.gate + 1 + i) (omega arith) (omega arith) (omega (arith, lt))
        ∙ ap (λ n. get_or body n 0) here

    -- a gate was written, and is open or not
    behind_gate : (step : PenStep) → new.job ≡ Some (at step) → AddsMoment before after → IsTornWrite old.gate 1 (now before) (now after) → w.shown ≡ w.written
        → HasBody old.shape old.gate (at Gate) (bytes_of before)
        → (new.broken ≡ false → (get_or (bytes_of after) old.gate 0 ≡ 1) × (step ≡ GateSync)) → IsWitnessed from after new
    behind_gate step job_is moment torn closed body in_turn = elim (cases_order (get_or (bytes_of after) old.gate 0) 1) [
      | inl opened ↦ made step (w.written ++ frame ∷ []) job_is moment
          (shows_opened old.shape w.written (at Gate) (now before) (now after) old.gate gate_is there (shows_written closed) torn opened body (legal opened))
          (inr (subst (λ fs. OpensGate old.shape fs (w.written ++ frame ∷ []) (bytes_of before) (bytes_of after)) (sym closed)
          (opens_gate old.shape w.written (at Gate) (now before) (now after) old.gate gate_is there (shows_written closed) torn)))
          (inr refl)
          (λ whole. subst (λ st. ShowsAtStep old.shape old.gate w.written (w.written ++ frame ∷ []) (at step) (bytes_of after) st) (sym (in_turn whole).1) refl)
      | inr (inl less) ↦ shut (λ e. omega arith)
      | inr (inr more) ↦ shut (λ e. omega arith)
    ]
      where
        legal : get_or (bytes_of after) old.gate 0 ≡ 1 → AreLegal old.shape (w.written ++ frame ∷ [])
        legal opened =
            subst (λ sh. AreLegal sh (w.written ++ frame ∷ [])) counts.shape_same
            (legal_opened after new kept w.written (w.written_as ∙ sym file.frames_same) (bytes_of after) (at step) readable job_is (ap (λ n. get_or (bytes_of after) n 0) counts.gate_same ∙ opened))

        shut : get_or (bytes_of after) old.gate 0 ≢ 1 → IsWitnessed from after new
        shut not = made step w.written job_is moment
            (shows_shut old.shape w.written (at Gate) (now before) (now after) old.gate gate_is there (shows_written closed) torn not) (inl (sym closed)) (inl refl)
            (λ whole. absurd (not (in_turn whole).0))

    -- ---- by its step

    in_turn_was : (step : PenStep) → old.job ≡ Some (at step) → old.broken ≡ false → ShowsAtStep old.shape old.gate w.written w.shown (at step) (bytes_of before) step
    in_turn_was step job_was whole = subst (ShowsInTurn old.shape old.gate w.written w.shown (bytes_of before)) job_was (w.in_turn whole)

    some_step : (a b : PenStep) → Some a ≡ Some b → a ≡ b
    some_step a b same = cc

    log_step : (step next : PenStep) → old.job ≡ Some (at step) → old.broken ≡ false → step_after step ≡ Some next → new.job ≡ Some (at next)
        → Makes (call_at step old.gate (job_bytes old.shape (at step))) before after → IsWitnessed from after new
    log_step Body next job_was whole goes job_is wrote =
        let closed = in_turn_was Body job_was whole in
        let next_is : BodySync ≡ next = some_step BodySync next goes in
        let inside = there in
        behind_body BodySync (length (body_of (job_bytes old.shape (at Body)))) (job_is ∙ ap (λ n. Some (at n)) (sym next_is)) (adds _ wrote)
        (written_torn (old.gate + 1) (body_of (job_bytes old.shape (at Body))) before after (omega arith) wrote) closed
        (λ sound. (refl, has_body wrote))
    log_step BodySync next job_was whole goes job_is settles =
        let was = in_turn_was BodySync job_was whole in
        let next_is : Gate ≡ next = some_step Gate next goes in
        let bytes : bytes_of after ≡ bytes_of before = ap (λ ss. (now ss).seen) settles in
        unchanged Gate (job_is ∙ ap (λ n. Some (at n)) (sym next_is)) (adds _ settles) bytes (inl was.0)
        (λ sound. (was.0, subst (HasBody old.shape old.gate (at Gate)) (sym bytes) was.1))
    log_step Gate next job_was whole goes job_is wrote =
        let was = in_turn_was Gate job_was whole in
        let next_is : GateSync ≡ next = some_step GateSync next goes in
        let inside = there in
        behind_gate GateSync (job_is ∙ ap (λ n. Some (at n)) (sym next_is)) (adds _ wrote)
        (written_torn old.gate (1 ∷ []) before after (omega arith) wrote) was.0 was.1
        (λ sound. (ap (λ ss. get_or (now ss).seen old.gate 0) wrote ∙ opened_at (bytes_of before) old.gate there, refl))
    log_step GateSync next job_was whole goes job_is settles = absurd cc

    -- it failed
    log_fails : (step : PenStep) → old.job ≡ Some (at step) → old.broken ≡ false → new.broken ≡ true → new.job ≡ Some (at step)
        → Fails (call_at step old.gate (job_bytes old.shape (at step))) before after → IsWitnessed from after new
    log_fails Body job_was whole broken job_is tears =
        behind_body Body (length (body_of (job_bytes old.shape (at Body)))) job_is (tears_adds (old.gate + 1) (body_of (job_bytes old.shape (at Body))) before after tears)
        (failed_torn (old.gate + 1) (body_of (job_bytes old.shape (at Body))) before after tears) (in_turn_was Body job_was whole) (λ sound. absurd (clash sound))
      where
        clash : new.broken ≡ false → ⊥
        clash sound = let e = sym broken ∙ sound in absurd cc
    log_fails BodySync job_was whole broken job_is stays =
        unchanged BodySync job_is (adds _ stays) (ap (λ ss. (now ss).seen) stays) (inl (in_turn_was BodySync job_was whole).0) (λ sound. (let e = sym broken ∙ sound in absurd cc))
    log_fails Gate job_was whole broken job_is tears =
        let was = in_turn_was Gate job_was whole in
        behind_gate Gate job_is (tears_adds old.gate (1 ∷ []) before after tears) (failed_torn old.gate (1 ∷ []) before after tears) was.0 was.1
        (λ sound. (let e = sym broken ∙ sound in absurd cc))
    log_fails GateSync job_was whole broken job_is stays =
        unchanged GateSync job_is (adds _ stays) (ap (λ ss. (now ss).seen) stays) (inr (in_turn_was GateSync job_was whole)) (λ sound. (let e = sym broken ∙ sound in absurd cc))

  -- the last call of a job: its frame is one of the pen's
  log_done : (job : JobOf) → old.job ≡ Some job → old.broken ≡ false → job.step ≡ GateSync → CountsDone job.frame old new → FileGains job.frame old new → Settles before after
      → IsWitnessed from after new
  log_done job job_was whole last done gains settles =
      let shown_is : w.shown ≡ w.written ++ job.frame ∷ [] =
      subst (ShowsAtStep old.shape old.gate w.written w.shown job (bytes_of before)) last (subst (ShowsInTurn old.shape old.gate w.written w.shown (bytes_of before)) job_was (w.in_turn whole)) in
      let bytes : bytes_of after ≡ bytes_of before = ap (λ ss. (now ss).seen) settles in
      let gate : ℕ = old.gate + length (frame_text old.shape.format job.frame) in
      witnessed_as from after new kept old.shape gate _ _ None done.shape_same done.gate_is gains.frames_more gains.vector_is done.job_done w.wide (w.written ++ job.frame ∷ []) w.shown
      (all_blanked_push w.written job.frame ∙ ap (λ fs. frames_with fs job.frame) w.written_as)
      (one_came from old.shape.width w.written old.vector job.frame w.have_come)
      (shown_on old.shape from.clock_was before after w.shown w.shown w.begun (adds _ settles) w.has_shown (subst (ShowsFrames old.shape w.shown) (sym bytes) shows_before) (inl refl))
      shown_is (λ sound. shown_is)
      (subst (HomesEndBelow gate) (sym done.fold_is) (homes_behind gate job.frame old.fold (homes_later old.gate gate old.fold (omega arith) w.homes_below)))

  -- ---- by what it answers

  due_of : (job : JobOf) (P : Call → Type 0) → old.job ≡ Some job → IfSome (option_map (λ j. call_at j.step old.gate (job_bytes old.shape j)) old.job) P
      → P (call_at job.step old.gate (job_bytes old.shape job))
  due_of job P job_was calls = subst (λ o. IfSome (option_map (λ j. call_at j.step old.gate (job_bytes old.shape j)) o) P) job_was calls

  done_settles : (job : JobOf) (step : PenStep) → step ≡ GateSync → Makes (call_at step old.gate (job_bytes old.shape job)) before after → Settles before after
  done_settles job step last calls = subst (λ st. Makes (call_at st old.gate (job_bytes old.shape job)) before after) last calls

  log_answered : (ticked : Ticked) → old.broken ≡ false → IsTicked old new ticked → FileTicked old new ticked → LogTickCalls old ticked before after → IsWitnessed from after new
  log_answered ticks.Idle whole (none, same) file calls = same_pen same
  log_answered ticks.Step whole (job, job_was, (next, goes, job_is), counts) file calls =
      log_step job.frame counts file job.step next job_was whole goes job_is (due_of job (λ call. Makes call before after) job_was calls)
  log_answered ticks.Done whole (job, job_was, last, done) file calls =
      let gains = subst (λ o. IfSome o (λ j. FileGains j.frame old new)) job_was file in
      log_done job job_was whole last done gains (done_settles job job.step last (due_of job (λ call. Makes call before after) job_was calls))

  log_refused : (fault : PenFault) → IsTickFault old new fault → FileSame old new → LogTickFails old.broken old before after → IsWitnessed from after new
  log_refused fault (inl (is, broken, same)) file calls = same_pen same
  log_refused fault (inr (job, whole, job_was, is, broken)) file calls =
      let fails = subst (λ b. LogTickFails b old before after) whole calls in
      log_fails job.frame broken.counts_same file job.step job_was whole broken.broken (broken.job_same ∙ job_was) (due_of job (λ call. Fails call before after) job_was fails)

  pub log_ticked : (result : Result Ticked PenFault) → OnOk result ((old.broken ≡ false) × (new.broken ≡ false)) → IfOk result (λ ticked. IsTicked old new ticked)
      → IfOk result (λ ticked. FileTicked old new ticked) → IfErr result (λ fault. IsTickFault old new fault) → OnErr result (FileSame old new)
      → MatchResult result (λ ticked. LogTickCalls old ticked before after) (λ _. LogTickFails old.broken old before after) → IsWitnessed from after new
  log_ticked (Ok ticked) whole is file refused stays calls = log_answered ticked whole.0 is file calls
  log_ticked (Err fault) whole is file refused stays calls = log_refused fault refused stays calls

-- what is no step leaves no job
pub job_ended : {D : Type 0} (old new : PenOf D) (ticked : Ticked) → (ticked ≡ ticks.Step → ⊥) → IsTicked old new ticked → new.job ≡ None
job_ended old new ticks.Idle other is = ap (λ pen. pen.job) is.1 ∙ is.0
job_ended old new ticks.Step other is = absurd (other refl)
job_ended old new ticks.Done other is = is.3.job_done
