-- What a follower of events has written of a vector.
use Rattle.std.specs.Prelude.{◌≡◌, ◌≢◌, ℕ, ◌≤◌, List, [], ◌∷◌, ◌++◌, Option, Some, None, codes, Result, MatchResult}
use Rattle.std.specs.List.{flat_map}
use Rattle.std.specs.Io.KnownBytes.{Appends, Keeps}
use Rattle.record_core.specs.Bytes.{Encoding}
use Rattle.segment_core.specs.declared.format.Shape.{Shape}
use Rattle.segment_core.specs.Frame.{Frame}
use Rattle.text_core.specs.Text.{ended_line}
use Rattle.beside_core.specs.declared.bookmark.Bookmark.{Bookmark}
use Rattle.beside_core.specs.declared.news.News.{News}
use Rattle.beside_core.specs.PensFile.{IsPensFile}
use Rattle.beside_core.specs.Replay.{vector_left}
use Rattle.beside_core.specs.Bookmark.{LiesBehind}
use Rattle.beside_core.specs.News.{IsNewsAt, MayRefuseNews}
use Rattle.follow_core.specs.declared.place.Place.{Place}
use Rattle.follow_core.specs.declared.ended.FollowEnd.{FollowEnd}
use Rattle.follow_core.specs.declared.ended.FollowEnd.TheVariants.{Lost, Refused, Ended, Replaced, OutputFailed}
use Rattle.follow_core.specs.Event.{Event, IsApplied, event_lines, events_of}
use Rattle.follow_core.specs.Followed.{AreSettled}
use Rattle.follow_core.specs.Place.{IsPlaceBehind, IsPlaceOf, place_text}

-- the line that ends a step
abbrev pub step_end : Place → List ℕ
step_end place = ended_line (codes ". " ++ place_text place)

-- the lines of some events, and the place behind them; of none there is no line
abbrev pub step_lines : {R : Type 0} → (R → List ℕ) → List (Event R) → Place → List ℕ
step_lines text_of [] place = []
step_lines text_of (event ∷ events) place = event_lines text_of (event ∷ events) ++ step_end place

pub record Step (R : Type 0) : Type 0 where
  pub events : List (Event R)
  pub place : Place

abbrev pub steps_lines : {R : Type 0} → (R → List ℕ) → List (Step R) → List ℕ
steps_lines text_of steps = flat_map (λ step. step_lines text_of step.events step.place) steps

-- Behind each step stand some frames more; its events make of the vector before it the one that they leave, and its place
-- lies behind them.
abbrev pub AreSteps : {R : Type 0} → Encoding R → Shape → List Frame → List (Step R) → List Frame → Type 0
AreSteps form shape known [] all = all ≡ known
AreSteps form shape known (step ∷ steps) all =
    (came : List Frame) × IsApplied form step.events (vector_left form.width known) (vector_left form.width (known ++ came)) × IsPlaceBehind shape (known ++ came) step.place
    × AreSteps form shape (known ++ came) steps all

-- ---- one look

-- the events that a look answered, and the place of the bookmark behind them
abbrev pub WritesStep : {R : Type 0} → (R → List ℕ) → News R → Option (List ℕ) → Option (List ℕ) → Type 0
WritesStep text_of news old new = (place : Place) × IsPlaceOf news.next place × Appends old new (step_lines text_of (events_of news.edits.items news.records.items) place)

-- the step that a look answered was written, and the bookmark lies behind it
pub record WroteStep {R : Type 0} (form : Encoding R) (text_of : R → List ℕ) (shape : Shape) (frames : ℕ
    → List Frame) (known : List Frame) (from to synced : ℕ) (old new : Option (List ℕ)) (next : Bookmark) : Type 0 where
  pub news : News R
  pub is : IsNewsAt form shape frames known from to synced news
  pub next_is : next ≡ news.next
  pub written : WritesStep text_of news old new

-- why nothing was, or not all
abbrev pub EndsStep : {R : Type 0} → Encoding R → Shape → (ℕ → List Frame) → ℕ → ℕ → Option (List ℕ) → Option (List ℕ) → FollowEnd → Type 0
EndsStep form shape frames from to old new (Lost loss) = ⊥
EndsStep form shape frames from to old new (Refused fault) = Keeps old new × MayRefuseNews form shape frames from to fault
EndsStep form shape frames from to old new Ended = ⊥
EndsStep form shape frames from to old new Replaced = ⊥
EndsStep form shape frames from to old new OutputFailed = Unit {0}

abbrev pub IsStepped : {R : Type 0} → Encoding R → (R → List ℕ) → Bookmark → (ℕ → List ℕ) → ℕ → ℕ → ℕ → Option (List ℕ) → Option (List ℕ) → Result Bookmark FollowEnd → Type 0
IsStepped form text_of mark held from to synced old new result =
    (shape : Shape) (frames : ℕ → List Frame) (known : List Frame) → IsPensFile shape held frames → LiesBehind shape known mark → (more : List Frame) × (frames from ≡ known ++ more)
    → MatchResult result (WroteStep form text_of shape frames known from to synced old new) (EndsStep form shape frames from to old new)

-- ---- all looks

-- the frames behind which it begins: those of a place, or none
abbrev pub BeginsBehind : Shape → Option Place → List Frame → Type 0
BeginsBehind shape None known = known ≡ []
BeginsBehind shape (Some place) known = IsPlaceBehind shape known place

-- the lines of steps from some frames of the file to more of them, all of which are settled
pub record HasStepped {R : Type 0} (form : Encoding R) (text_of : R → List ℕ) (shape : Shape) (frames : ℕ → List Frame) (known : List Frame) (now synced : ℕ) (old new : Option (List ℕ)) : Type 0 where
  pub all : List Frame
  pub stand : (more : List Frame) × (frames now ≡ all ++ more)
  pub settled : all ≢ known → AreSettled frames all synced
  pub steps : List (Step R)
  pub are : AreSteps form shape known steps all
  pub written : Appends old new (steps_lines text_of steps)

-- why a follower of events may have ended; nothing that became of the vector is a reason
abbrev pub IsStepsEnd : {R : Type 0} → Encoding R → Shape → (ℕ → List Frame) → ℕ → FollowEnd → Type 0
IsStepsEnd form shape frames now (Lost loss) = ⊥
IsStepsEnd form shape frames now (Refused fault) = MayRefuseNews form shape frames 0 now fault
IsStepsEnd form shape frames now Ended = Unit {0}
IsStepsEnd form shape frames now Replaced = Unit {0}
IsStepsEnd form shape frames now OutputFailed = Unit {0}

abbrev pub HasEndedBehindSteps : {R : Type 0} → Encoding R → (R → List ℕ) → Option Place → (ℕ → List ℕ) → ℕ → ℕ → ℕ → Option (List ℕ) → Option (List ℕ) → FollowEnd → Type 0
HasEndedBehindSteps form text_of after held from now synced old new end =
    (shape : Shape) (frames : ℕ → List Frame) (known : List Frame) → IsPensFile shape held frames → BeginsBehind shape after known → (more : List Frame) × (frames from ≡ known ++ more)
    → HasStepped form text_of shape frames known now synced old new × IsStepsEnd form shape frames now end

-- where a write has failed, nothing is known of what was written
abbrev pub IsFollowedByEvents : {R : Type 0} → Encoding R → (R → List ℕ) → Option Place → (ℕ → List ℕ) → ℕ → ℕ → ℕ → Option (List ℕ) → Option (List ℕ) → FollowEnd → Type 0
IsFollowedByEvents form text_of after held from now synced old new (Lost loss) = HasEndedBehindSteps form text_of after held from now synced old new (Lost loss)
IsFollowedByEvents form text_of after held from now synced old new (Refused fault) = HasEndedBehindSteps form text_of after held from now synced old new (Refused fault)
IsFollowedByEvents form text_of after held from now synced old new Ended = HasEndedBehindSteps form text_of after held from now synced old new Ended
IsFollowedByEvents form text_of after held from now synced old new Replaced = HasEndedBehindSteps form text_of after held from now synced old new Replaced
IsFollowedByEvents form text_of after held from now synced old new OutputFailed = Unit {0}

-- the steps lead to the vector of one moment between two
abbrev pub HasSteppedWhole : {R : Type 0} → Encoding R → (R → List ℕ) → Option Place → (ℕ → List ℕ) → ℕ → ℕ → ℕ → Option (List ℕ) → Option (List ℕ) → Type 0
HasSteppedWhole form text_of after held from to synced old new =
    (shape : Shape) (frames : ℕ → List Frame) (known : List Frame) → IsPensFile shape held frames → BeginsBehind shape after known → (more : List Frame) × (frames from ≡ known ++ more)
    → (moment : ℕ) × (from ≤ moment) × (moment ≤ to) × (has : HasStepped form text_of shape frames known to synced old new) × (has.all ≡ frames moment)

-- they do, where the pause has ended a follower
abbrev pub IsSteppedWhole : {R : Type 0} → Encoding R → (R → List ℕ) → Option Place → (ℕ → List ℕ) → ℕ → ℕ → ℕ → Option (List ℕ) → Option (List ℕ) → FollowEnd → Type 0
IsSteppedWhole form text_of after held from to synced old new (Lost loss) = Unit {0}
IsSteppedWhole form text_of after held from to synced old new (Refused fault) = Unit {0}
IsSteppedWhole form text_of after held from to synced old new Ended = HasSteppedWhole form text_of after held from to synced old new
IsSteppedWhole form text_of after held from to synced old new Replaced = HasSteppedWhole form text_of after held from to synced old new
IsSteppedWhole form text_of after held from to synced old new OutputFailed = Unit {0}
