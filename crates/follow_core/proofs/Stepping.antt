-- What a follower of events has written so far, step by step.
use Rattle.std.proofs.Common.{◌≡◌, ℕ, suc, ◌+◌, ◌<◌, ◌≤◌, List, [], ◌∷◌, ◌++◌, length, map, take, set, Option, Some, None, refl, sym, ap, subst, ◌∙◌, arith, append_assoc, length-append, inl, inr}
use Rattle.std.specs.Prelude.{Bool, true, false, ◌==◌}
use Rattle.std.specs.Io.KnownBytes.{Appends, Keeps}
use Rattle.std.proofs.lemmas.Bool.{eqb-true}
use Rattle.std.proofs.lemmas.List.{append-nil, length-map, nil_from_length}
use Rattle.std.proofs.lemmas.List.Concat.{flat_map-append}
use Rattle.record_core.specs.Bytes.{Encoding}
use Rattle.segment_core.specs.declared.format.Shape.{Shape}
use Rattle.segment_core.specs.Frame.{Frame}
use Rattle.segment_core.specs.Raw.{AreReadAs}
use Rattle.beside_core.specs.declared.bookmark.Bookmark.{Bookmark}
use Rattle.beside_core.specs.declared.fault.LookFault.{LookFault}
use Rattle.beside_core.specs.declared.fault.LookFault.TheVariants.{Disk, Scan, NoRecord, TooFar, Memory}
use Rattle.beside_core.specs.declared.news.News.{News}
use Rattle.beside_core.specs.declared.news.Edit.{Edit}
use Rattle.beside_core.specs.declared.news.Edit.TheVariants as edits
use Rattle.beside_core.specs.Edit.{IsEdited}
use Rattle.beside_core.specs.Fault.{IsNoDamage}
use Rattle.beside_core.specs.PensFile.{IsPensFile}
use Rattle.beside_core.specs.Replay.{vector_left}
use Rattle.beside_core.specs.Bookmark.{LiesBehind}
use Rattle.beside_core.specs.Since.{MayRefuse}
use Rattle.beside_core.specs.News.{MayRefuseNews}
use Rattle.follow_core.specs.declared.place.Place.{Place}
use Rattle.follow_core.specs.declared.ended.FollowEnd.{FollowEnd}
use Rattle.follow_core.specs.declared.ended.FollowEnd.TheVariants.{Lost, Refused, Ended, Replaced, OutputFailed}
use Rattle.text_core.specs.Text.{ended_line}
use Rattle.follow_core.specs.Event.{Event, Put, Set, Cut, IsApplied, event_text, event_lines, event_of, events_of, edit_lines, put_lines}
use Rattle.follow_core.specs.Place.{IsPlaceOf, IsPlaceBehind}
use Rattle.follow_core.specs.Stepped.{Step, AreSteps, step_end, step_lines, steps_lines, WritesStep, WroteStep, EndsStep, HasStepped, BeginsBehind, IsFollowedByEvents, HasSteppedWhole, IsSteppedWhole}
use Rattle.text_core.proofs.Known.{Appends_none, Appends_then}
use Rattle.follow_core.proofs.PlaceLemmas.{lies_at}
use Rattle.follow_core.proofs.Settled.{settled_later, settled_more}

-- ---- events

applied_both : {R : Type 0} (form : Encoding R) (first next : List (Event R)) (old mid new : List (List ℕ)) → IsApplied form first old mid → IsApplied form next mid new
    → IsApplied form (first ++ next) old new
applied_both form [] next old mid new a b = subst (λ (cells : List (List ℕ)). IsApplied form next cells new) (sym a) b
applied_both form (Put r ∷ first) next old mid new a b = (a.0, a.1, applied_both form first next (old ++ a.0 ∷ []) mid new a.2 b)
applied_both form (Set i r ∷ first) next old mid new a b = (a.0, a.1, a.2, applied_both form first next (set old i a.1) mid new a.3 b)
applied_both form (Cut n ∷ first) next old mid new a b = (a.0, applied_both form first next (take n old) mid new a.1 b)

applied_edits : {R : Type 0} (form : Encoding R) (es : List (Edit R)) (old new : List (List ℕ)) → IsEdited form es old new → IsApplied form (map event_of es) old new
applied_edits form [] old new is = is
applied_edits form (edits.Set i r ∷ es) old new is = (is.0, is.1, is.2, applied_edits form es (set old i is.1) new is.3)
applied_edits form (edits.Cut n ∷ es) old new is = (is.0, applied_edits form es (take n old) new is.1)

applied_puts : {R : Type 0} (form : Encoding R) (cells : List (List ℕ)) (records : List R) (old : List (List ℕ)) → AreReadAs form cells records
    → IsApplied form (map (λ r. Put r) records) old (old ++ cells)
applied_puts form [] [] old are = sym (append-nil old)
applied_puts form [] (r ∷ records) old are = absurd (omega (arith, are.size))
applied_puts form (bytes ∷ cells) [] old are = absurd (omega (arith, are.size))
applied_puts form (bytes ∷ cells) (r ∷ records) old are = (
  bytes,
  are.each 0,
  subst (λ (all : List (List ℕ)). IsApplied form (map (λ r. Put r) records) (old ++ bytes ∷ []) all) (append_assoc old (bytes ∷ []) cells) (applied_puts form cells records
      (old ++ bytes ∷ []) (record { size = omega (arith, are.size); each = λ i. are.each (suc i) })),
)

pub events_applied : {R : Type 0} (form : Encoding R) (es : List (Edit R)) (records : List R) (cells old front new : List (List ℕ)) → IsEdited form es old front → AreReadAs form cells records
    → new ≡ front ++ cells → IsApplied form (events_of es records) old new
events_applied form es records cells old front new edited are is =
    subst (λ (all : List (List ℕ)). IsApplied form (events_of es records) old all) (sym is) (applied_both form (map event_of es) (map (λ r. Put r) records) old front (front ++ cells)
    (applied_edits form es old front edited) (applied_puts form cells records front are))

-- the lines of what a look answers are those of its edits, and of its records
pub lines_of_events : {R : Type 0} (text_of : R → List ℕ) (es : List (Edit R)) (records : List R)
    → event_lines text_of (events_of es records) ≡ edit_lines text_of es ++ put_lines text_of records
lines_of_events {R} text_of es records =
    flat_map-append (λ (event : Event R). ended_line (event_text text_of event)) (map event_of es) (map (λ r. Put r) records)
    ∙ ap (λ (bs : List ℕ). bs ++ event_lines text_of (map (λ r. Put r) records)) (edits_are es)
    ∙ ap (λ (bs : List ℕ). edit_lines text_of es ++ bs) (puts_are records)
  where
    edits_are : (es : List (Edit R)) → event_lines text_of (map event_of es) ≡ edit_lines text_of es
    edits_are [] = refl
    edits_are (e ∷ es) = ap (λ (bs : List ℕ). ended_line (event_text text_of (event_of e)) ++ bs) (edits_are es)

    puts_are : (records : List R) → event_lines text_of (map (λ r. Put r) records) ≡ put_lines text_of records
    puts_are [] = refl
    puts_are (r ∷ records) = ap (λ (bs : List ℕ). ended_line (event_text text_of (Put r)) ++ bs) (puts_are records)

-- ---- one step

-- nothing more was written
pub appends_kept : (old mid new : Option (List ℕ)) (bs : List ℕ) → Appends old mid bs → Keeps mid new → Appends old new bs
appends_kept None mid new bs p keeps = tt
appends_kept (Some xs) None new bs p keeps = absurd p
appends_kept (Some xs) (Some ys) None bs p keeps = absurd keeps
appends_kept (Some xs) (Some ys) (Some zs) bs p keeps = keeps ∙ p

-- what a test of a length tells
pub none_by : {X : Type 0} (xs : List X) (len : ℕ) (b : Bool) → len ≡ length xs → b ≡ (len == 0) → b ≡ true → xs ≡ []
none_by xs len b same told is = nil_from_length xs (sym same ∙ eqb-true len 0 (sym told ∙ is))

pub some_by : {X : Type 0} (xs : List X) (len : ℕ) (b : Bool) → len ≡ length xs → b ≡ (len == 0) → b ≡ false → 0 < length xs
some_by [] len b same told is = (let clash : true ≡ false = sym (ap (λ n. n == 0) same) ∙ sym told ∙ is in absurd cc)
some_by (x ∷ xs) len b same told is = omega arith

pub nothing_written : {R : Type 0} (text_of : R → List ℕ) (news : News R) (old : Option (List ℕ)) → news.edits.items ≡ [] → news.records.items ≡ [] → WritesStep text_of news old old
nothing_written text_of news old no_edits no_records =
    let place : Place = record { gate = news.next.gate; size = news.next.tally.size; changes = news.next.tally.changes; folded = news.next.tally.folded } in
    let none : step_lines text_of (events_of news.edits.items news.records.items) (record {
      gate = news.next.gate;
      size = news.next.tally.size;
      changes = news.next.tally.changes;
      folded = news.next.tally.folded;
    }) ≡ []
    = ap (λ es. step_lines text_of (events_of es news.records.items) place) no_edits ∙ ap (λ rs. step_lines text_of (events_of [] rs) place) no_records in
    (place, record { gate_is = refl; size_is = refl; changes_are = refl; folded_is = refl }, subst (λ (bs : List ℕ). Appends old old bs) (sym none) (Appends_none old))

lines_of_some : {R : Type 0} (text_of : R → List ℕ) (events : List (Event R)) (place : Place) → 0 < length events → step_lines text_of events place ≡ event_lines text_of events ++ step_end place
lines_of_some text_of [] place some = absurd (omega (arith, some))
lines_of_some text_of (event ∷ events) place some = refl

pub step_written : {R : Type 0} (text_of : R → List ℕ) (news : News R) (place : Place) (old edited put new : Option (List ℕ)) → 0 < length news.edits.items + length news.records.items
    → IsPlaceOf news.next place → Appends old edited (edit_lines text_of news.edits.items) → Appends edited put (put_lines text_of news.records.items) → Appends put new (step_end place)
    → WritesStep text_of news old new
step_written text_of news place old edited put new some of_next first second third =
    let count : length (events_of news.edits.items news.records.items) ≡ length news.edits.items + length news.records.items
    = length-append (map event_of news.edits.items) (map (λ r. Put r) news.records.items) ∙ ap (λ n. n + length (map (λ r. Put r) news.records.items)) (length-map news.edits.items event_of)
    ∙ ap (λ n. length news.edits.items + n) (length-map news.records.items (λ r. Put r)) in
    let lines : step_lines text_of (events_of news.edits.items news.records.items) place ≡ (edit_lines text_of news.edits.items ++ put_lines text_of news.records.items) ++ step_end place
    = lines_of_some text_of (events_of news.edits.items news.records.items) place (omega (arith, count, some))
    ∙ ap (λ (bs : List ℕ). bs ++ step_end place) (lines_of_events text_of news.edits.items news.records.items) in (
      place,
      of_next,
      subst (λ (bs : List ℕ). Appends old new bs) (sym lines) (Appends_then old put new (edit_lines text_of news.edits.items ++ put_lines text_of news.records.items) (step_end place)
          (Appends_then old edited put (edit_lines text_of news.edits.items) (put_lines text_of news.records.items) first second) third),
    )

-- ---- steps

steps_push : {R : Type 0} (form : Encoding R) (shape : Shape) (known : List Frame) (steps : List (Step R)) (all came : List Frame) (step : Step R) → AreSteps form shape known steps all
    → IsApplied form step.events (vector_left form.width all) (vector_left form.width (all ++ came)) → IsPlaceBehind shape (all ++ came) step.place
    → AreSteps form shape known (steps ++ step ∷ []) (all ++ came)
steps_push form shape known [] all came step are applied place = (
  came,
  subst (λ (fs : List Frame). IsApplied form step.events (vector_left form.width fs) (vector_left form.width (fs ++ came))) are applied,
  subst (λ (fs : List Frame). IsPlaceBehind shape (fs ++ came) step.place) are place,
  ap (λ (fs : List Frame). fs ++ came) are,
)
steps_push form shape known (first ∷ steps) all came step are applied place =
    (are.0, are.1, are.2, steps_push form shape (known ++ are.0) steps all came step are.3 applied place)

-- and the bookmark lies behind them
pub record StepsAt {R : Type 0} (form : Encoding R) (text_of : R → List ℕ) (shape : Shape) (frames : ℕ
    → List Frame) (known : List Frame) (mark : Bookmark) (now synced : ℕ) (old new : Option (List ℕ)) : Type 0 where
  pub has : HasStepped form text_of shape frames known now synced old new
  pub lies : LiesBehind shape has.all mark

pub steps_nothing : {R : Type 0} (form : Encoding R) (text_of : R → List ℕ) (shape : Shape) (held : ℕ → List ℕ) (frames : ℕ → List Frame) (known : List Frame) (from now synced : ℕ) (old : Option (List ℕ))
    → IsPensFile shape held frames → from ≤ now → (more : List Frame) × (frames from ≡ known ++ more) → HasStepped form text_of shape frames known now synced old old
steps_nothing form text_of shape held frames known from now synced old file le more =
    let grown = file.grows from now le in
    record {
      all = known;
      stand = (more.0 ++ grown.0, grown.1 ∙ ap (λ (fs : List Frame). fs ++ grown.0) more.1 ∙ append_assoc known more.0 grown.0);
      settled = λ some. absurd (some refl);
      steps = [];
      are = refl;
      written = Appends_none old;
    }

pub steps_begin : {R : Type 0} (form : Encoding R) (text_of : R → List ℕ) (shape : Shape) (held : ℕ → List ℕ) (frames : ℕ → List Frame) (known : List Frame) (mark : Bookmark) (from now synced : ℕ)
    (old : Option (List ℕ)) → IsPensFile shape held frames → from ≤ now → (more : List Frame) × (frames from ≡ known ++ more) → LiesBehind shape known mark
    → StepsAt form text_of shape frames known mark now synced old old
unfolding steps_nothing
steps_begin form text_of shape held frames known mark from now synced old file le more lies = record {
  has = steps_nothing form text_of shape held frames known from now synced old file le more;
  lies = lies;
}

pub steps_more : {R : Type 0} (form : Encoding R) (text_of : R → List ℕ) (shape : Shape) (held : ℕ → List ℕ) (frames : ℕ
    → List Frame) (known : List Frame) (mark next : Bookmark) (from to before synced : ℕ) (old mid new : Option (List ℕ))
    → IsPensFile shape held frames → before ≤ synced → (at : StepsAt form text_of shape frames known mark from before old mid)
    → (wrote : WroteStep form text_of shape frames at.has.all from to synced mid new next)
    → (next_at : StepsAt form text_of shape frames known next to synced old new) × (next_at.has.all ≡ frames wrote.is.moment)
steps_more form text_of shape held frames known mark next from to before synced old mid new file keeps at wrote =
    let look = wrote.is in
    let news = look.answer in
    let grown = file.grows look.moment to look.until in
    let events = events_of wrote.news.edits.items wrote.news.records.items in
    let place = wrote.written.0 in
    let lies : LiesBehind shape (at.has.all ++ look.came) next = subst (λ m. LiesBehind shape (at.has.all ++ look.came) m) (sym wrote.next_is) news.lies in
    let one : steps_lines text_of (record { events = events_of wrote.news.edits.items wrote.news.records.items; place = wrote.written.0 } ∷ [])
    ≡ step_lines text_of (events_of wrote.news.edits.items wrote.news.records.items) wrote.written.0
    = append-nil (step_lines text_of (events_of wrote.news.edits.items wrote.news.records.items) wrote.written.0) in
    let after : StepsAt form text_of shape frames known next to synced old new = record {
      has = record {
        all = at.has.all ++ look.came;
        stand = (grown.0, grown.1 ∙ ap (λ (fs : List Frame). fs ++ grown.0) look.frames_are);
        settled = settled_more frames known at.has.all look.came look.moment before synced keeps at.has.settled look.frames_are look.settled;
        steps = at.has.steps ++ record { events = events; place = place } ∷ [];
        are = steps_push form shape known at.has.steps at.has.all look.came (record { events = events; place = place }) at.has.are
            (events_applied form wrote.news.edits.items wrote.news.records.items news.cells (vector_left form.width at.has.all) news.front (vector_left form.width (at.has.all ++ look.came))
            news.edited news.are news.vector_is)
            (lies_at shape (at.has.all ++ look.came) wrote.news.next place news.lies wrote.written.1);
        written = subst (λ (bs : List ℕ). Appends old new bs) (sym (flat_map-append (λ (step : Step _). step_lines text_of step.events step.place) at.has.steps
            (record { events = events; place = place } ∷ []) ∙ ap (λ (bs : List ℕ). steps_lines text_of at.has.steps ++ bs) one)) (Appends_then old mid new (steps_lines text_of at.has.steps)
            (step_lines text_of events place) at.has.written wrote.written.2);
      };
      lies = lies;
    } in
    (after, sym look.frames_are)

pub steps_stay : {R : Type 0} (form : Encoding R) (text_of : R → List ℕ) (shape : Shape) (held : ℕ → List ℕ) (frames : ℕ → List Frame) (known : List Frame) (now later before synced : ℕ) (old mid new : Option
    (List ℕ))
    → IsPensFile shape held frames → now ≤ later → before ≤ synced → Keeps mid new → HasStepped form text_of shape frames known now before old mid
    → HasStepped form text_of shape frames known later synced old new
steps_stay form text_of shape held frames known now later before synced old mid new file le keeps same has =
    let grown = file.grows now later le in
    record {
      all = has.all;
      stand = (has.stand.0 ++ grown.0, grown.1 ∙ ap (λ (fs : List Frame). fs ++ grown.0) has.stand.1 ∙ append_assoc has.all has.stand.0 grown.0);
      settled = settled_later frames known has.all before synced keeps has.settled;
      steps = has.steps;
      are = has.are;
      written = appends_kept old mid new (steps_lines text_of has.steps) has.written same;
    }

-- ---- the last look

-- what may be refused between two moments may be refused between wider ones
weaker : {R : Type 0} (form : Encoding R) (shape : Shape) (frames : ℕ → List Frame) (from to : ℕ) (fault : LookFault) → MayRefuse form shape frames from to fault
    → MayRefuse form shape frames 0 to fault
weaker form shape frames from to (Disk fault) may = tt
weaker form shape frames from to (Scan fault) may = may
weaker form shape frames from to (NoRecord i) may = (may.0, omega arith, may.2, may.3, may.4, may.5)
weaker form shape frames from to TooFar may = tt
weaker form shape frames from to Memory may = tt

pub news_weaker : {R : Type 0} (form : Encoding R) (shape : Shape) (frames : ℕ → List Frame) (from to : ℕ) (fault : LookFault) → MayRefuseNews form shape frames from to fault
    → MayRefuseNews form shape frames 0 to fault
news_weaker form shape frames from to fault may = elim may [
  | inl may ↦ inl (weaker form shape frames from to fault may)
  | inr change ↦ inr (change.0, change.1, (change.2.0, omega arith, change.2.2, change.2.3))
]

pub no_damage_news : {R : Type 0} (form : Encoding R) (shape : Shape) (frames : ℕ → List Frame) (to : ℕ) (fault : LookFault) → IsNoDamage fault → MayRefuseNews form shape frames 0 to fault
no_damage_news form shape frames to (Disk fault) clear = inl tt
no_damage_news form shape frames to (Scan fault) clear = absurd clear
no_damage_news form shape frames to (NoRecord i) clear = absurd clear
no_damage_news form shape frames to TooFar clear = inl tt
no_damage_news form shape frames to Memory clear = inl tt

pub steps_ended : {R : Type 0} (form : Encoding R) (text_of : R → List ℕ) (after : Option Place) (held : ℕ → List ℕ) (start from to before synced : ℕ) (old mid new : Option (List ℕ)) (mark
    : Bookmark) (end : FollowEnd) → from ≤ to → before ≤ synced
    → ((shape : Shape) (frames : ℕ → List Frame) (known : List Frame) → IsPensFile shape held frames → BeginsBehind shape after known → (more : List Frame) × (frames start ≡ known ++ more)
    → StepsAt form text_of shape frames known mark from before old mid)
    → ((shape : Shape) (frames : ℕ → List Frame) (known : List Frame) → IsPensFile shape held frames → LiesBehind shape known mark
    → (more : List Frame) × (frames from ≡ known ++ more) → EndsStep form shape frames from to mid new end)
    → IsFollowedByEvents form text_of after held start to synced old new end
steps_ended form text_of after held start from to before synced old mid new mark (Lost loss) le keeps at is = λ shape frames known file begins more.
    let so_far = at shape frames known file begins more in
    absurd (is shape frames so_far.has.all file so_far.lies so_far.has.stand)
steps_ended form text_of after held start from to before synced old mid new mark (Refused fault) le keeps at is = λ shape frames known file begins more.
    let so_far = at shape frames known file begins more in
    let last = is shape frames so_far.has.all file so_far.lies so_far.has.stand in
    (steps_stay form text_of shape held frames known from to before synced old mid new file le keeps last.0 so_far.has, news_weaker form shape frames from to fault last.1)
steps_ended form text_of after held start from to before synced old mid new mark Ended le keeps at is = λ shape frames known file begins more.
    let so_far = at shape frames known file begins more in
    absurd (is shape frames so_far.has.all file so_far.lies so_far.has.stand)
steps_ended form text_of after held start from to before synced old mid new mark Replaced le keeps at is = λ shape frames known file begins more.
    let so_far = at shape frames known file begins more in
    absurd (is shape frames so_far.has.all file so_far.lies so_far.has.stand)
steps_ended form text_of after held start from to before synced old mid new mark OutputFailed le keeps at is = tt

-- ---- a look after which the pause ends

module _ {R : Type 0} (form : Encoding R) (text_of : R → List ℕ) (after : Option Place) (held : ℕ → List ℕ) (start from to before synced : ℕ) (old mid new : Option (List ℕ)) (mark : Bookmark)
    (at : (shape : Shape) (frames : ℕ → List Frame) (known : List Frame) → IsPensFile shape held frames → BeginsBehind shape after known → (more : List Frame) × (frames start ≡ known ++ more)
    → StepsAt form text_of shape frames known mark from before old mid) where
  pub steps_whole : (next : Bookmark) → start ≤ from → before ≤ synced
      → ((shape : Shape) (frames : ℕ → List Frame) (known : List Frame) → IsPensFile shape held frames → LiesBehind shape known mark → (more : List Frame) × (frames from ≡ known ++ more)
      → WroteStep form text_of shape frames known from to synced mid new next) → HasSteppedWhole form text_of after held start to synced old new
  steps_whole next le keeps is shape frames known file begins more =
      let so_far = at shape frames known file begins more in
      let wrote = is shape frames so_far.has.all file so_far.lies so_far.has.stand in
      let last = steps_more form text_of shape held frames known mark next from to before synced old mid new file keeps so_far wrote in
      let begun = wrote.is.begun in
      (wrote.is.moment, omega (arith, begun, le), wrote.is.until, last.0.has, last.1)

  pub steps_ended_whole : (end : FollowEnd) → ((shape : Shape) (frames : ℕ → List Frame) (known : List Frame) → IsPensFile shape held frames → LiesBehind shape known mark
      → (more : List Frame) × (frames from ≡ known ++ more) → EndsStep form shape frames from to mid new end) → IsSteppedWhole form text_of after held start to synced old new end
  steps_ended_whole (Lost loss) is = tt
  steps_ended_whole (Refused fault) is = tt
  steps_ended_whole Ended is = λ shape frames known file begins more.
      let so_far = at shape frames known file begins more in absurd (is shape frames so_far.has.all file so_far.lies so_far.has.stand)
  steps_ended_whole Replaced is = λ shape frames known file begins more.
      let so_far = at shape frames known file begins more in absurd (is shape frames so_far.has.all file so_far.lies so_far.has.stand)
  steps_ended_whole OutputFailed is = tt
