-- What a tick of the homes leaves a reader.
use Rattle.std.proofs.Common.{◌≡◌, ℕ, ◌+◌, ◌≤◌, ◌<◌, true, false, List, [], ◌∷◌, ◌++◌, length, drop, get_or, Option, Some, None, Result, Ok, Err, refl, sym, ap, subst, ◌∙◌, arith, inl, inr}
use Rattle.std.specs.Prelude.{◌⊎◌, IfSome, MatchResult, IfOk, IfErr, OnOk}
use Rattle.std.proofs.lemmas.Bool.{cases_lt, cases_Bool}
use Rattle.std.proofs.lemmas.List.{length-append}
use Rattle.disk_core.specs.State.{State, now, IsImage, IsTornWrite}
use Rattle.disk_core.specs.Calls.{bytes_of, AddsMoment}
use Rattle.disk_core.specs.Choice.{is_pending}
use Rattle.segment_core.specs.declared.format.Shape.{Shape}
use Rattle.segment_core.specs.Frame.{Frame, frame_text, text, header_len}
use Rattle.segment_core.specs.Frame as frames
use Rattle.segment_core.specs.Tally.{nothing, AreLegal}
use Rattle.segment_core.proofs.Push.{text_push, AreLegalFrom_before}
use Rattle.pen_core.specs.declared.step.PenStep.{PenStep}
use Rattle.pen_core.specs.declared.step.PenStep.TheVariants as steps
use Rattle.pen_core.specs.declared.stage.HomeTicked.{HomeTicked}
use Rattle.pen_core.specs.declared.stage.HomeTicked.TheVariants as ticks
use Rattle.pen_core.specs.declared.stage.FoldStage.{FoldStage}
use Rattle.pen_core.specs.declared.stage.FoldStage.TheVariants.{Home, Sync, Ready, Filed}
use Rattle.pen_core.specs.declared.stage.FoldStage.TheVariants as stages
use Rattle.pen_core.specs.declared.fault.PenFault.{PenFault}
use Rattle.pen_core.specs.Call.{Call, Makes, Fails}
use Rattle.pen_core.specs.Held.{IsBeingFolded}
use Rattle.pen_core.specs.InHand.{first_write, due, due_at, has_call, left_after}
use Rattle.pen_core.specs.PenOf.{PenOf, JobOf, FoldOf, HomeWrite}
use Rattle.pen_core.specs.Pen.{IsKept, MayBePending, FileSame, FilesFold, IsHomeTicked, IsHomeFault, HomeTickCalls, HomeTickFails, fold_count}
use Rattle.beside_core.specs.MayDiffer.{MayDiffer}
use Rattle.beside_core.proofs.MayDiffer.{MayDiffer-append}
use Rattle.witness_core.specs.Shown.{ShowsFrames}
use Rattle.witness_core.specs.Witnessed.{ShowsWith, ShowsAtStep, ShowsInTurn, EndBelow, HomesEndBelow, WitnessStart, IsWitnessed}
use Rattle.witness_core.proofs.Moments.{newest_shown}
use Rattle.witness_core.proofs.CallBytes.{adds, written_torn, failed_torn, tears_adds, settled_same, outside_same}
use Rattle.witness_core.proofs.Folded.{folded_differs}
use Rattle.witness_core.proofs.KeptFile.{written_gate, gate_there}
use Rattle.witness_core.proofs.Witnessed.{ShownOn, shown_on, witnessed_as}

-- ---- what is shown has what was written

abbrev pub OneMore : List Frame → List Frame → Type 0
OneMore written shown = (shown ≡ written) ⊎ ((frame : Frame) × (shown ≡ written ++ frame ∷ []))

pub one_more : (written : List Frame) (job : Option JobOf) (shown : List Frame) → ShowsWith written job shown → OneMore written shown
one_more written None shown shows = inl shows
one_more written (Some job) shown (inl same) = inl same
one_more written (Some job) shown (inr more) = inr (job.frame, more)

module _ (shape : Shape) (written shown : List Frame) where
  pub legal_written : OneMore written shown → AreLegal shape shown → AreLegal shape written
  legal_written (inl same) legal = subst (AreLegal shape) same legal
  legal_written (inr (frame, more)) legal = AreLegalFrom_before shape nothing written frame (subst (AreLegal shape) more legal)

  longer_shown : OneMore written shown → length (text shape written) ≤ length (text shape shown)
  longer_shown (inl same) = omega (arith, ap (λ (fs : List Frame). length (text shape fs)) same)
  longer_shown (inr (frame, more)) = omega (
    arith,
    ap (λ (fs : List Frame). length (text shape fs)) more,
    ap length (text_push shape written frame),
    length-append (text shape written) (frame_text shape.format frame),
  )

  may_differ_shown : (i : ℕ) → OneMore written shown → MayDiffer shape 0 written i → MayDiffer shape 0 shown i
  may_differ_shown i (inl same) may = subst (λ fs. MayDiffer shape 0 fs i) (sym same) may
  may_differ_shown i (inr (frame, more)) may = subst (λ fs. MayDiffer shape 0 fs i) (sym more) (MayDiffer-append shape 0 written (frame ∷ []) i may)

-- ---- home writes that are left

first_below : (gate : ℕ) (left : List HomeWrite) → EndBelow gate left → (first_write left).place + length (first_write left).bytes ≤ gate
first_below gate [] below = omega arith
first_below gate (write ∷ left) below = below.0

next_below : (gate : ℕ) (left : List HomeWrite) → EndBelow gate left → EndBelow gate (drop 1 left)
next_below gate [] below = tt
next_below gate (write ∷ left) below = below.1

left_below : (gate : ℕ) (stage : FoldStage) (left : List HomeWrite) → EndBelow gate left → EndBelow gate (left_after stage left)
left_below gate stages.None left below = below
left_below gate (Home n) left below = next_below gate left below
left_below gate Sync left below = below
left_below gate Ready left below = below
left_below gate Filed left below = below

abbrev HasCall : Option Call → Type 0
HasCall None = ⊥
HasCall (Some call) = Unit {0}

some_due : (stage : FoldStage) (left : List HomeWrite) → has_call stage ≡ true → HasCall (due_at stage left)
some_due stages.None left has = absurd cc
some_due (Home n) left has = tt
some_due Sync left has = tt
some_due Ready left has = absurd cc
some_due Filed left has = absurd cc

-- ---- a job in hand doesn't see them

at_step_kept : (shape : Shape) (gate : ℕ) (written shown : List Frame) (job : JobOf) (old new : List ℕ) (step : PenStep) → ((j : ℕ) → gate ≤ j → get_or new j 0 ≡ get_or old j 0)
    → ShowsAtStep shape gate written shown job old step → ShowsAtStep shape gate written shown job new step
at_step_kept shape gate written shown job old new steps.Body same shows = shows
at_step_kept shape gate written shown job old new steps.BodySync same shows = (shows.0, λ i lt. same (gate + 1 + i) (omega arith) ∙ shows.1 i lt)
at_step_kept shape gate written shown job old new steps.Gate same shows = (shows.0, λ i lt. same (gate + 1 + i) (omega arith) ∙ shows.1 i lt)
at_step_kept shape gate written shown job old new steps.GateSync same shows = shows

in_turn_kept : (shape : Shape) (gate : ℕ) (written shown : List Frame) (old new : List ℕ) (job : Option JobOf) → ((j : ℕ) → gate ≤ j → get_or new j 0 ≡ get_or old j 0)
    → ShowsInTurn shape gate written shown old job → ShowsInTurn shape gate written shown new job
in_turn_kept shape gate written shown old new None same shows = shows
in_turn_kept shape gate written shown old new (Some job) same shows = at_step_kept shape gate written shown job old new job.step same shows

module _ {D : Type 0} (states : D → List State) (from : WitnessStart) (old new : PenOf D) (w : IsWitnessed from (states old.disk) old)
    (was_readable : IsImage (now (states old.disk)) (bytes_of (states old.disk))) (readable : IsImage (now (states new.disk)) (bytes_of (states new.disk)))
    (kept : IsKept (states new.disk) new) (file : FileSame old new) where
  abbrev before : List State
  before = states old.disk

  abbrev after : List State
  after = states new.disk

  gate_is : old.gate ≡ length (text old.shape w.written)
  gate_is = written_gate before old w.kept w.written w.written_as

  there : old.gate < length (bytes_of before)
  there = gate_there before old w.kept w.written w.written_as (bytes_of before) was_readable

  shows_before : ShowsFrames old.shape w.shown (bytes_of before)
  shows_before = newest_shown old.shape _ before w.shown w.has_shown

  more : OneMore w.written w.shown
  more = one_more w.written old.job w.shown w.shows

  same_pen : new ≡ old → IsWitnessed from after new
  same_pen same = subst (λ (pen : PenOf D). IsWitnessed from (states pen.disk) pen) (sym same) w

  module _ (shape_same : new.shape ≡ old.shape) (gate_same : new.gate ≡ old.gate) (job_same : new.job ≡ old.job) where
    -- a call that leaves alone what stands from the gate on
    called_on : (whole : new.broken ≡ false → old.broken ≡ false) → AddsMoment before after → ShowsFrames old.shape w.shown (bytes_of after)
        → ((j : ℕ) → old.gate ≤ j → get_or (bytes_of after) j 0 ≡ get_or (bytes_of before) j 0) → HomesEndBelow old.gate new.fold → IsWitnessed from after new
    called_on whole moment shows same homes =
        witnessed_as from after new kept old.shape old.gate old.frames old.vector old.job shape_same gate_same file.frames_same file.vector_same job_same w.wide w.written w.shown w.written_as
        w.have_come
        (shown_on old.shape from.clock_was before after w.shown w.shown w.begun moment w.has_shown shows (inl refl)) w.shows
        (λ sound. in_turn_kept old.shape old.gate w.written w.shown (bytes_of before) (bytes_of after) old.job same (w.in_turn (whole sound))) homes

    nothing_changed : (whole : new.broken ≡ false → old.broken ≡ false) → AddsMoment before after → bytes_of after ≡ bytes_of before → HomesEndBelow old.gate new.fold → IsWitnessed from after new
    nothing_changed whole moment bytes homes =
        called_on whole moment (subst (ShowsFrames old.shape w.shown) (sym bytes) shows_before) (λ j le. ap (λ bs. get_or bs j 0) bytes) homes

    module _ (at len : ℕ) (torn : IsTornWrite at len (now before) (now after)) (below : at + len ≤ old.gate) where
      from_gate : (j : ℕ) → old.gate ≤ j → get_or (bytes_of after) j 0 ≡ get_or (bytes_of before) j 0
      from_gate j le = outside_same at len (now before) (now after) torn (omega (arith, there)) j (inr (omega arith))

      -- what is pending below the gate is being folded
      folded : (j : ℕ) → j < old.gate → MayBePending new j → IsBeingFolded old.shape (fold_count new.fold) old.frames j
      folded j lt (inl past) = absurd (omega (arith, past, gate_same))
      folded j lt (inr (inl at_gate)) = absurd (omega (arith, at_gate.0, gate_same))
      folded j lt (inr (inr is)) =
          subst (λ sh. IsBeingFolded sh (fold_count new.fold) old.frames j) shape_same (subst (λ fs. IsBeingFolded new.shape (fold_count new.fold) fs j) file.frames_same is)

      below_gate : (j : ℕ) → j < old.gate
          → (get_or (bytes_of after) j 0 ≡ get_or (bytes_of before) j 0) ⊎ ((i : ℕ) × (j ≡ header_len + i) × MayDiffer old.shape 0 w.shown i)
      below_gate j lt = elim (cases_Bool (is_pending (now after) j)) [
        | inl pending ↦ (
            let is = folded j lt (kept.pending_is_told j pending) in
            let may = folded_differs old.shape (fold_count new.fold) w.written j (legal_written old.shape w.written w.shown more shows_before.legal)
            (subst (λ fs. IsBeingFolded old.shape (fold_count new.fold) fs j) (sym w.written_as) is) in
            inr (may.0, may.1, may_differ_shown old.shape w.written w.shown may.0 more may.2))
        | inr out ↦ inl (settled_same at len (now before) (now after) torn was_readable readable j out)
      ]

      shows_homes : ShowsFrames old.shape w.shown (bytes_of after)
      shows_homes = record {
        legal = shows_before.legal;
        stands = λ j lt. elim (cases_lt j old.gate) [
          | inl small ↦ elim (below_gate j small) [
            | inl same ↦ elim (shows_before.stands j lt) [ inl is ↦ inl (same ∙ is) | inr may ↦ inr may ]
            | inr may ↦ inr may
          ]
          | inr from ↦ elim (shows_before.stands j lt) [ inl is ↦ inl (from_gate j from ∙ is) | inr may ↦ inr may ]
        ];
        closed = λ is.
            shows_before.closed (sym (from_gate (length (text old.shape w.shown)) (omega (arith, gate_is, longer_shown old.shape w.written w.shown more))) ∙ is);
      }

      home_written : (whole : new.broken ≡ false → old.broken ≡ false) → AddsMoment before after → HomesEndBelow old.gate new.fold → IsWitnessed from after new
      home_written whole moment homes = called_on whole moment shows_homes from_gate homes

    -- ---- by its stage

    home_made : (stage : FoldStage) (left : List HomeWrite) → (new.broken ≡ false → old.broken ≡ false) → EndBelow old.gate left → HomesEndBelow old.gate new.fold
        → IfSome (due_at stage left) (λ call. Makes call before after) → HasCall (due_at stage left) → IsWitnessed from after new
    home_made (Home n) left whole below homes wrote some =
        let write : HomeWrite = first_write left in
        let fits = first_below old.gate left below in
        let inside = there in
        home_written write.place (length write.bytes) (written_torn write.place write.bytes before after (omega arith) wrote) fits whole (adds _ wrote) homes
    home_made Sync left whole below homes settles some = nothing_changed whole (adds _ settles) (ap (λ ss. (now ss).seen) settles) homes
    home_made stages.None left whole below homes made some = absurd some
    home_made Ready left whole below homes made some = absurd some
    home_made Filed left whole below homes made some = absurd some

    home_failed : (stage : FoldStage) (left : List HomeWrite) → (new.broken ≡ false → old.broken ≡ false) → EndBelow old.gate left → HomesEndBelow old.gate new.fold
        → IfSome (due_at stage left) (λ call. Fails call before after) → HasCall (due_at stage left) → IsWitnessed from after new
    home_failed (Home n) left whole below homes tears some =
        let write : HomeWrite = first_write left in
        home_written write.place (length write.bytes) (failed_torn write.place write.bytes before after tears) (first_below old.gate left below) whole
        (tears_adds write.place write.bytes before after tears) homes
    home_failed Sync left whole below homes stays some = nothing_changed whole (adds _ stays) (ap (λ ss. (now ss).seen) stays) homes
    home_failed stages.None left whole below homes made some = absurd some
    home_failed Ready left whole below homes made some = absurd some
    home_failed Filed left whole below homes made some = absurd some

  -- ---- by what it answers

  fold_below : (fold : FoldOf) → old.fold ≡ Some fold → EndBelow old.gate fold.left
  fold_below fold was = subst (HomesEndBelow old.gate) was w.homes_below

  -- the fold's frame is the job
  home_filed : (fold : FoldOf) → FilesFold fold old new → IsWitnessed from after new
  home_filed fold files =
      let job : JobOf = record { frame = frames.Fold fold.count; step = steps.Body } in
      let same : states new.disk ≡ states old.disk = ap states files.disk_same in
      let shown_is : old.broken ≡ false → w.shown ≡ w.written = λ whole. subst (ShowsInTurn old.shape old.gate w.written w.shown (bytes_of before)) files.idle (w.in_turn whole) in
      let shows : w.shown ≡ w.written = subst (λ o. ShowsWith w.written o w.shown) files.idle w.shows in
      witnessed_as from after new kept old.shape old.gate old.frames old.vector (Some job) files.shape_same files.gate_same file.frames_same file.vector_same files.job_is w.wide w.written w.shown
      w.written_as w.have_come
      (subst (λ ss. ShownOn old.shape from.clock_was ss w.shown) (sym same) (record { begun = w.begun; has = w.has_shown })) (inl shows) (λ sound. shows)
      (subst (HomesEndBelow old.gate) (sym files.fold_is) (fold_below fold files.fold_was))

  home_answered : (ticked : HomeTicked) → old.broken ≡ false → IsHomeTicked old new ticked → HomeTickCalls old.fold ticked before after → IsWitnessed from after new
  home_answered ticks.Idle whole (none, same) calls = same_pen same
  home_answered ticks.Waiting whole (fold, waits) calls = same_pen waits.same
  home_answered ticks.Filed whole (fold, files) calls = home_filed fold files
  home_answered ticks.Step whole (fold, has, is) calls =
      let below = fold_below fold is.fold_was in
      home_made is.shape_same is.gate_same is.job_same fold.stage fold.left (λ sound. whole) below
      (subst (HomesEndBelow old.gate) (sym is.fold_is) (left_below old.gate fold.stage fold.left below))
      (subst (λ o. IfSome (due o) (λ call. Makes call before after)) is.fold_was calls) (some_due fold.stage fold.left has)

  home_refused : (fault : PenFault) → IsHomeFault old new fault → HomeTickFails old.broken old.fold before after → IsWitnessed from after new
  home_refused fault (inl (is, broken, same)) calls = same_pen same
  home_refused fault (inr (fold, whole, was, has, is, broken)) calls =
      let below = fold_below fold was in
      let fails = subst (λ b. HomeTickFails b old.fold before after) whole calls in
      home_failed broken.counts_same.shape_same broken.counts_same.gate_same broken.job_same fold.stage fold.left (λ sound. whole) below
      (subst (HomesEndBelow old.gate) (sym (broken.counts_same.fold_same ∙ was)) below)
      (subst (λ o. IfSome (due o) (λ call. Fails call before after)) was fails) (some_due fold.stage fold.left has)

  pub home_ticked : (result : Result HomeTicked PenFault) → OnOk result ((old.broken ≡ false) × (new.broken ≡ false)) → IfOk result (λ ticked. IsHomeTicked old new ticked)
      → IfErr result (λ fault. IsHomeFault old new fault)
      → MatchResult result (λ ticked. HomeTickCalls old.fold ticked before after) (λ _. HomeTickFails old.broken old.fold before after) → IsWitnessed from after new
  home_ticked (Ok ticked) whole is refused calls = home_answered ticked whole.0 is calls
  home_ticked (Err fault) whole is refused calls = home_refused fault refused calls
