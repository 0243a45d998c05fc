-- The headline from what each step's call says.
use Rattle.std.proofs.Common.{◌≡◌, ◌⊎◌, inl, inr, Bool, true, false, ℕ, zero, suc, ◌+◌, ◌-◌, ◌≤◌, ◌<◌, List, [], ◌∷◌, ◌++◌, length, map, sum, take, Option, Some, None, refl, sym, ap, subst, ◌∙◌, arith, append-nil, append_assoc, length-append}
use Rattle.std.specs.Prelude.{slice_get, slice_set}
use Rattle.std.proofs.lemmas.List.{take-append-le}
use Rattle.std.proofs.lemmas.Option.{same_Some}
use Rattle.record_core.specs.Bytes.{Encoding}
use Rattle.std.proofs.lemmas.List.Sums.{sum_by-cons}
use Rattle.disk_core.specs.State.{IsImage, now}
use Rattle.disk_core.specs.Moments.{clock, LeftSince, LeavesOnly}
use Rattle.disk_core.proofs.JoinedMoments.{LeavesOnly-start, LeavesOnly-join, LeavesOnly-weaker}
use Rattle.segment_core.specs.declared.format.Shape.{Shape}
use Rattle.segment_core.specs.Shape.{shape_of}
use Rattle.segment_core.specs.Command.{Command, content}
use Rattle.pen_core.specs.Typed.{OpensTo}
use Rattle.pen_core.specs.declared.fault.PenFault.TheVariants as pen_fault
use Rattle.drive_core.specs.declared.fault.StepFault.{StepFault}
use Rattle.drive_core.specs.declared.fault.StepFault.TheVariants.{Vault, Grow, Scan}
use Rattle.vault_core.specs.declared.fault.VaultFault.TheVariants as vault
use Rattle.drive_core.specs.Step.{Step, Answer}
use Rattle.drive_core.specs.Step as step
use Rattle.book_core.specs.declared.mark.MarkState.{MarkState}
use Rattle.book_core.specs.declared.mark.MarkState.TheVariants.{Running}
use Rattle.drive_core.specs.GrowthRows.{IsMarkRead}
use Rattle.drive_core.specs.World.{World, GrowthPhase, DrivePhase, Shut, Exclusive, Growing}
use Rattle.drive_core.specs.OpeningRows.{NotCreated, NotOpened}
use Rattle.drive_core.specs.Rows.{IsStep, OfSeat, PhaseRow, ShutRow, StrayRow, has_seat}
use Rattle.drive_core.specs.Run.{Event, IsEvent, AreEvents, HasCalls, CreateCalls, OpenCalls, last}
use Rattle.drive_core.specs.Headline.{HasFile, OpensToPrefix, LeavesPrefixes, LeavesTold, Rests, Inner, AllInner}
use Rattle.drive_core.proofs.Goes.{Goes, HasFile-marked, IsMarked, step_goes}

zero_or_more : (n : ℕ) → (n ≡ 0) ⊎ (0 < n)
zero_or_more zero = inl refl
zero_or_more (suc n) = inr (omega arith)

-- the history of a later world begins with this one's
record Extends {R : Type 0} (w w' : World R) : Type 0 where
  base_same : w'.base ≡ w.base
  added : List (Command R)
  history_is : w'.history ≡ w.history ++ added
  settled_le : w.settled ≤ w'.settled

-- where a file is there, no mark was raised past what is settled
abbrev pub Marks : {R : Type 0} → World R → Type 0
Marks w = HasFile w.phase → IsMarked w.settled w.phase

-- a phase, and what a seat was told, is one
growing_is : {a b : GrowthPhase} → Growing a ≡ Growing b → a ≡ b
growing_is same = cc

told_is : {R : Type 0} (answer : Answer R) (m n : ℕ) (s t : MarkState) → answer ≡ step.Told m s → answer ≡ step.Told n t → m ≡ n
told_is answer m n s t first second = cc

module _ {R : Type 0} (form : Encoding R) where
  -- a prefix of an earlier history, with more of it settled, is one of a later history, with less
  prefix_later : (w w' : World R) (settled settled' : ℕ) (image : List ℕ) → w'.base ≡ w.base → (added : List (Command R)) → w'.history ≡ w.history ++ added → settled' ≤ settled
      → OpensToPrefix form w.base w.history settled image → OpensToPrefix form w'.base w'.history settled' image
  prefix_later w w' settled settled' image base added history le p = record {
    kept = p.kept;
    at_least = omega (arith, le, p.at_least);
    at_most = let long = ap length history ∙ length-append w.history added in omega (arith, p.at_most, long);
    opens = subst (OpensTo form image) (sym same) p.opens;
  }
    where
      same : content w'.base (take p.kept w'.history) ≡ content w.base (take p.kept w.history)
      same = ap (λ b. content b (take p.kept w'.history)) base ∙ ap (content w.base) (ap (take p.kept) history ∙ take-append-le p.kept w.history added p.at_most)

  module _ (keeps : Type 0) where
    -- ---- a step that makes a file calls the device
    not_created : (shape : Shape) (w w' : World R) (fault : StepFault) → w.phase ≡ Shut → NotCreated keeps shape w w' fault → w'.phase ≡ Shut
    not_created shape w w' (Vault (vault.Pen (pen_fault.Disk fault))) shut by = ap (λ x. x.phase) by.2 ∙ shut
    not_created shape w w' (Vault (vault.Pen pen_fault.Exists)) shut by = ap (λ x. x.phase) by.2 ∙ shut
    not_created shape w w' (Vault other) shut by = ap (λ x. x.phase) by ∙ shut
    not_created shape w w' (Grow fault) shut by = absurd by
    not_created shape w w' (Scan fault) shut by = absurd by

    not_opened : (w w' : World R) (fault : StepFault) → w.phase ≡ Shut → NotOpened form keeps w w' fault → w'.phase ≡ Shut
    not_opened w w' (Vault (vault.Pen (pen_fault.Disk fault))) shut by = ap (λ x. x.phase) by.2 ∙ shut
    not_opened w w' (Vault other) shut by = absurd by
    not_opened w w' (Grow fault) shut by = absurd by
    not_opened w w' (Scan fault) shut by = ap (λ x. x.phase) by.2 ∙ shut

    shut_row : (w w' : World R) (n : ℕ) (asked : Step R) (answer : Answer R) → w.phase ≡ Shut → HasCalls w asked answer n → ShutRow form keeps w asked answer w'
        → (w'.phase ≡ Shut) ⊎ (w'.phase ≡ Exclusive) × (0 < n)
    shut_row w w' n (step.Create format) answer shut calls row = elim row [
      | inl made ↦ inr (ap (λ x. x.phase) made.1.3, let c = subst (λ a. CreateCalls a n) made.1.0 calls in omega (arith, c.0))
      | inr refused ↦ inl (not_created (shape_of format form) w w' refused.0 shut refused.3)
    ]
    shut_row w w' n step.Open answer shut calls row = elim row [
      | inl made ↦ inr (ap (λ x. x.phase) made.1.5, let c = subst (λ a. OpenCalls a n) made.1.2 calls in omega (arith, c))
      | inr refused ↦ inl (not_opened w w' refused.0 shut refused.3)
    ]
    shut_row w w' n (step.Share room seats) answer shut calls row = inl (ap (λ x. x.phase) row.1 ∙ shut)
    shut_row w w' n (step.Put seat records) answer shut calls row = inl (ap (λ x. x.phase) row.1 ∙ shut)
    shut_row w w' n (step.Look pass) answer shut calls row = inl (ap (λ x. x.phase) row.1 ∙ shut)
    shut_row w w' n (step.View seat) answer shut calls row = inl (ap (λ x. x.phase) row.1 ∙ shut)
    shut_row w w' n (step.Settled seat) answer shut calls row = inl (ap (λ x. x.phase) row.1 ∙ shut)
    shut_row w w' n step.Take answer shut calls row = inl (ap (λ x. x.phase) row.1 ∙ shut)
    shut_row w w' n step.Raise answer shut calls row = inl (ap (λ x. x.phase) row.1 ∙ shut)
    shut_row w w' n step.Close answer shut calls row = inl (ap (λ x. x.phase) row.1 ∙ shut)
    shut_row w w' n step.Gather answer shut calls row = inl (ap (λ x. x.phase) row.1 ∙ shut)
    shut_row w w' n (step.Change start records) answer shut calls row = inl (ap (λ x. x.phase) row.1 ∙ shut)
    shut_row w w' n (step.Changes pieces) answer shut calls row = inl (ap (λ x. x.phase) row.1 ∙ shut)
    shut_row w w' n (step.Resize size r) answer shut calls row = inl (ap (λ x. x.phase) row.1 ∙ shut)
    shut_row w w' n step.Clear answer shut calls row = inl (ap (λ x. x.phase) row.1 ∙ shut)
    shut_row w w' n step.Listing answer shut calls row = inl (ap (λ x. x.phase) row.1 ∙ shut)
    shut_row w w' n step.Fold answer shut calls row = inl (ap (λ x. x.phase) row.1 ∙ shut)
    shut_row w w' n step.Log answer shut calls row = inl (ap (λ x. x.phase) row.1 ∙ shut)
    shut_row w w' n step.Home answer shut calls row = inl (ap (λ x. x.phase) row.1 ∙ shut)

    -- what a step may make of a world in which no file is there
    phase_row : (w w' : World R) (n : ℕ) (phase : DrivePhase) → w.phase ≡ phase → (asked : Step R) (answer : Answer R) → HasCalls w asked answer n → PhaseRow form keeps w phase asked answer w'
        → HasFile phase ⊎ (w'.phase ≡ Shut) ⊎ (w'.phase ≡ Exclusive) × (0 < n)
    phase_row w w' n Shut at asked answer calls row = inr (shut_row w w' n asked answer at calls row)
    phase_row w w' n Exclusive at asked answer calls row = inl tt
    phase_row w w' n (Growing phase) at asked answer calls row = inl tt

    has_or_not : (phase : DrivePhase) → HasFile phase ⊎ (phase ≡ Shut)
    has_or_not Shut = inr refl
    has_or_not Exclusive = inl tt
    has_or_not (Growing phase) = inl tt

    stray_row : (w w' : World R) (n : ℕ) (stray : Option ℕ) (asked : Step R) (answer : Answer R) → HasCalls w asked answer n → StrayRow form keeps w stray asked answer w'
        → HasFile w.phase ⊎ (w'.phase ≡ Shut) ⊎ (w'.phase ≡ Exclusive) × (0 < n)
    stray_row w w' n None asked answer calls row = phase_row w w' n w.phase refl asked answer calls row
    stray_row w w' n (Some number) asked answer calls row = elim (has_or_not w.phase) [ inl has ↦ inl has | inr shut ↦ inr (inl (ap (λ x. x.phase) row.1 ∙ shut)) ]

    event_starts : (w : World R) (e : Event R) → IsEvent form keeps w e → HasFile w.phase ⊎ (e.after.phase ≡ Shut) ⊎ (e.after.phase ≡ Exclusive) × (0 < e.calls)
    event_starts w e is = stray_row w e.after e.calls w.strayed e.asked e.answer is.called is.row

    event_goes : (w : World R) (e : Event R) → IsEvent form keeps w e → IsMarked w.settled w.phase → Goes w e.after e.calls
    event_goes w e is has = step_goes w e.after e.calls has form keeps e.asked e.answer is.called is.row

    -- no mark is raised past what is settled
    marks_after : (w : World R) (e : Event R) → IsEvent form keeps w e → Marks w → Marks e.after
    marks_after w e is marks has = elim (event_starts w e is) [
      | inl there ↦ (event_goes w e is (marks there)).marked
      | inr other ↦ elim other [
        | inl shut ↦ absurd (subst HasFile shut has)
        | inr opened ↦ subst (IsMarked e.after.settled) (sym opened.0) tt
      ]
    ]

    -- ---- one event

    quiet_rests : (w : World R) (e : Event R) → IsEvent form keeps w e → e.calls ≡ 0 → IsMarked w.settled w.phase → Rests form w → Rests form e.after
    quiet_rests w e is none has rests image left =
        let g = event_goes w e is has in
        prefix_later w e.after w.settled e.after.settled image g.base_same g.added g.history_is (let same = g.quiet none in omega (arith, same))
        (rests image (subst (λ d. IsImage (now d.states) image) (is.still none) left))

    rests_after : (w : World R) (e : Event R) → IsEvent form keeps w e → Inner form w e → Marks w → (HasFile w.phase → Rests form w) → HasFile e.after.phase → Rests form e.after
    rests_after w e is inner marks rests has = elim (zero_or_more e.calls) [
      | inl none ↦ elim (event_starts w e is) [
        | inl there ↦ quiet_rests w e is none (marks there) (rests there)
        | inr other ↦ elim other [
          | inl shut ↦ absurd (subst HasFile shut has)
          | inr opened ↦ absurd (let some = opened.1 in omega (arith, none, some))
        ]
      ]
      | inr some ↦ inner.behind some has
    ]

    -- ---- the run

    run_extends : (w : World R) (events : List (Event R)) → IsMarked w.settled w.phase → AreEvents form keeps w events → Extends w (last w events)
    run_extends w [] has run = record { base_same = refl; added = []; history_is = sym (append-nil w.history); settled_le = omega arith }
    run_extends w (e ∷ events) has run =
        let g = event_goes w e run.0 has in
        let rest = run_extends e.after events g.marked run.1 in
        record {
          base_same = rest.base_same ∙ g.base_same;
          added = g.added ++ rest.added;
          history_is = rest.history_is ∙ ap (λ h. h ++ rest.added) g.history_is ∙ append_assoc w.history g.added rest.added;
          settled_le = omega (arith, g.settled_le, rest.settled_le);
        }

    -- one event before a run
    leaves_more : (w : World R) (e : Event R) (end : World R) → IsEvent form keeps w e → Inner form w e → IsMarked w.settled w.phase → Goes w e.after e.calls → Extends e.after end
        → LeavesOnly e.after.disk.states end.disk.states (OpensToPrefix form end.base end.history e.after.settled)
        → LeavesOnly w.disk.states end.disk.states (OpensToPrefix form end.base end.history w.settled)
    leaves_more w e end is inner has g far rest = elim (zero_or_more e.calls) [
      | inl none ↦ subst (λ d. LeavesOnly d.states end.disk.states (OpensToPrefix form end.base end.history w.settled)) (is.still none) then
      | inr some ↦ LeavesOnly-join w.disk.states e.after.disk.states end.disk.states (OpensToPrefix form end.base end.history w.settled)
          (LeavesOnly-weaker w.disk.states e.after.disk.states (OpensToPrefix form e.after.base e.after.history w.settled) (OpensToPrefix form end.base end.history w.settled)
          (λ image p. prefix_later e.after end w.settled w.settled image far.base_same far.added far.history_is (omega arith) p) (inner.within some (HasFile-marked w.settled w.phase has)))
          then
    ]
      where
        then : LeavesOnly e.after.disk.states end.disk.states (OpensToPrefix form end.base end.history w.settled)
        then = LeavesOnly-weaker e.after.disk.states end.disk.states (OpensToPrefix form end.base end.history e.after.settled) (OpensToPrefix form end.base end.history w.settled)
            (λ image p. prefix_later end end e.after.settled w.settled image refl [] (sym (append-nil end.history)) g.settled_le p) rest

    pub run_leaves : (w : World R) (events : List (Event R)) → IsMarked w.settled w.phase → Rests form w → AreEvents form keeps w events → AllInner form w events
        → LeavesOnly w.disk.states (last w events).disk.states (OpensToPrefix form (last w events).base (last w events).history w.settled)
    run_leaves w [] has rests run inner = LeavesOnly-start w.disk.states _ rests
    run_leaves w (e ∷ events) has rests run inner =
        let g = event_goes w e run.0 has in
        leaves_more w e (last e.after events) run.0 inner.0 has g (run_extends e.after events g.marked run.1)
        (run_leaves e.after events g.marked (rests_after w e run.0 inner.0 (λ there. has) (λ there. rests) (HasFile-marked e.after.settled e.after.phase g.marked)) run.1 inner.1)

    -- the moment behind one event more
    moment_after : (w : World R) (e : Event R) (events : List (Event R)) (j : ℕ) → IsEvent form keeps w e
        → clock w.disk.states + sum (take (suc j) (e.calls ∷ map (λ (e : Event R). e.calls) events)) ≡ clock e.after.disk.states + sum (take j (map (λ (e : Event R). e.calls) events))
    moment_after w e events j is =
        let first : sum (take (suc j) (e.calls ∷ map (λ (e : Event R). e.calls) events)) ≡ e.calls + sum (take j (map (λ (e : Event R). e.calls) events))
        = sum_by-cons (λ x. x) e.calls (take j (map (λ (e : Event R). e.calls) events)) in
        let time = is.time in
        omega (arith, first, time)

    nothing_more : (w : World R) (events : List (Event R)) → clock w.disk.states + sum (take 0 (map (λ (e : Event R). e.calls) events)) ≡ clock w.disk.states
    nothing_more w events = omega arith

    pub headline : (w : World R) (events : List (Event R)) → Marks w → (HasFile w.phase → Rests form w) → AreEvents form keeps w events → AllInner form w events → LeavesPrefixes form w events
    headline w events marks rests run inner zero before at has image left =
        let same : w ≡ before = same_Some w before at in
        let there : HasFile w.phase = subst (λ x. HasFile x.phase) (sym same) has in
        subst (λ x. OpensToPrefix form (last w events).base (last w events).history x.settled image) same
        ((run_leaves w events (marks there) (rests there) run inner).each image (subst (λ m. LeftSince (last w events).disk.states m image) (nothing_more w events) left))
    headline w [] marks rests run inner (suc j) before at has image left = absurd cc
    headline w (e ∷ events) marks rests run inner (suc j) before at has image left =
        headline e.after events (marks_after w e run.0 marks) (rests_after w e run.0 inner.0 marks rests) run.1 inner.1 j before at has image
        (subst (λ m. LeftSince (last e.after events).disk.states m image) (moment_after w e events j run.0) left)

    -- ---- what a seat was told

    told_seat : (w w' : World R) (seat : ℕ) (phase mine : GrowthPhase) (count : ℕ) (state : MarkState) (known : Bool) → w'.phase ≡ Growing phase
        → OfSeat w (step.Told count state) w' known (IsMarkRead w mine seat (step.Told count state) w') → count ≤ phase.mark
    told_seat w w' seat phase mine count state false growing row = absurd (let answer = row.0 in cc)
    told_seat w w' seat phase mine count state true growing row = elim row [
      | inl read ↦
          let same : record mine { told = slice_set mine.told seat read.1.0 } ≡ phase = growing_is (sym (ap (λ x. x.phase) read.1.4) ∙ growing) in
          let mark = ap (λ (p : GrowthPhase). p.mark) same in
          let count_is = told_is (step.Told count state) count read.1.0 state Running refl read.1.3 in
          omega (arith, mark, count_is, read.1.2)
      | inr refused ↦ absurd (let answer = refused.2 in cc)
    ]

    told_row : (w w' : World R) (seat : ℕ) (phase : GrowthPhase) (count : ℕ) (state : MarkState) (at : DrivePhase) → w'.phase ≡ Growing phase
        → PhaseRow form keeps w at (step.Settled seat) (step.Told count state) w' → count ≤ phase.mark
    told_row w w' seat phase count state Shut growing row = absurd (let answer = row.0 in cc)
    told_row w w' seat phase count state Exclusive growing row = absurd (let answer = row.0 in cc)
    told_row w w' seat phase count state (Growing mine) growing row = told_seat w w' seat phase mine count state (has_seat mine (Some seat)) growing row

    told_stray : (w w' : World R) (seat : ℕ) (phase : GrowthPhase) (count : ℕ) (state : MarkState) (stray : Option ℕ) → w'.phase ≡ Growing phase
        → StrayRow form keeps w stray (step.Settled seat) (step.Told count state) w' → count ≤ phase.mark
    told_stray w w' seat phase count state None growing row = told_row w w' seat phase count state w.phase growing row
    told_stray w w' seat phase count state (Some number) growing row = absurd (let answer = row.0 in cc)

    -- it is settled
    told_settled : (w : World R) (e : Event R) (seat : ℕ) (phase : GrowthPhase) (count : ℕ) (state : MarkState) → IsEvent form keeps w e → e.asked ≡ step.Settled seat
        → e.after.phase ≡ Growing phase → e.answer ≡ step.Told count state → IsMarked e.after.settled e.after.phase → count ≤ e.after.settled - phase.before
    told_settled w e seat phase count state is asked growing answer marked =
        let fits : phase.mark ≤ e.after.settled - phase.before = subst (IsMarked e.after.settled) growing marked in
        let row = subst (λ a. StrayRow form keeps w w.strayed a (step.Told count state) e.after) asked (subst (λ a. IsStep form keeps w e.asked a e.after) answer is.row) in
        let read = told_stray w e.after seat phase count state w.strayed growing row in
        omega arith

    pub leaves_told : (w : World R) (events : List (Event R)) → Marks w → (HasFile w.phase → Rests form w) → AreEvents form keeps w events → AllInner form w events → LeavesTold form w events
    leaves_told w [] marks rests run inner j event seat phase told state at asked growing answer number less image left = absurd cc
    leaves_told w (e ∷ events) marks rests run inner zero event seat phase told state at asked growing answer number less image left =
        let same : e ≡ event = same_Some e event at in
        let grows : e.after.phase ≡ Growing phase = ap (λ (x : Event R). x.after.phase) same ∙ growing in
        let has : HasFile e.after.phase = subst HasFile (sym grows) tt in
        let marked = marks_after w e run.0 marks has in
        let rests' = rests_after w e run.0 inner.0 marks rests has in
        let settled = told_settled w e seat phase told state run.0 (ap (λ (x : Event R). x.asked) same ∙ asked) grows (ap (λ (x : Event R). x.answer) same ∙ answer) marked in
        let end = last e.after events in
        let moment = moment_after w e events 0 run.0 in
        let opens = (run_leaves e.after events marked rests' run.1 inner.1).each image (subst (λ m. LeftSince end.disk.states m image) (moment ∙ nothing_more e.after events) left) in
        prefix_later end end e.after.settled (phase.before + number + 1) image refl [] (sym (append-nil end.history)) (omega arith) opens
    leaves_told w (e ∷ events) marks rests run inner (suc j) event seat phase told state at asked growing answer number less image left =
        leaves_told e.after events (marks_after w e run.0 marks) (rests_after w e run.0 inner.0 marks rests) run.1 inner.1 j event seat phase told state at asked growing answer number less image
        (subst (λ m. LeftSince (last e.after events).disk.states m image) (moment_after w e events (suc j) run.0) left)
