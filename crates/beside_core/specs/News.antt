-- All that has become of a vector since a reader saw it.
use Rattle.std.specs.Prelude.{◌≡◌, ◌≢◌, ◌⊎◌, ℕ, ◌+◌, ◌<◌, ◌≤◌, List, [], ◌++◌, length, Result, MatchResult}
use Rattle.std.specs.Global.{Vec}
use Rattle.record_core.specs.Bytes.{Encoding}
use Rattle.segment_core.specs.declared.format.Shape.{Shape}
use Rattle.segment_core.specs.Frame.{Frame}
use Rattle.segment_core.specs.Raw.{AreReadAs}
use Rattle.beside_core.specs.declared.bookmark.Bookmark.{Bookmark}
use Rattle.beside_core.specs.declared.fault.LookFault.{LookFault}
use Rattle.beside_core.specs.declared.fault.LookFault.TheVariants.{NoRecord}
use Rattle.beside_core.specs.declared.news.News.{News}
use Rattle.beside_core.specs.Replay.{vector_left}
use Rattle.beside_core.specs.PensFile.{IsPensFile}
use Rattle.beside_core.specs.Bookmark.{LiesBehind}
use Rattle.beside_core.specs.Look.{LookedOn}
use Rattle.beside_core.specs.Edit.{IsEdited}
use Rattle.beside_core.specs.Tail.{PutsNoRecord}
use Rattle.beside_core.specs.Since.{IsAtMoment, MayRefuse}

-- Known frames left a vector. Edited, and with the records behind, it is what the frames that came have made of it.
pub record IsNews {R : Type 0} (form : Encoding R) (shape : Shape) (known came : List Frame) (news : News R) : Type 0 where
  pub lies : LiesBehind shape (known ++ came) news.next
  pub front : List (List ℕ)
  pub edited : IsEdited form news.edits.items (vector_left form.width known) front
  pub cells : List (List ℕ)
  pub are : AreReadAs form cells news.records.items
  pub vector_is : vector_left form.width (known ++ came) ≡ front ++ cells

abbrev pub IsNewsAt : {R : Type 0} → Encoding R → Shape → (ℕ → List Frame) → List Frame → ℕ → ℕ → ℕ → News R → Type 0
IsNewsAt form shape frames known from to synced news = IsAtMoment frames known from to synced (λ came. IsNews form shape known came news)

-- at one moment of the look the file had a change by which the bytes of the record at position i were none of the type
abbrev pub HadChangeWithoutRecord : {R : Type 0} → Encoding R → (ℕ → List Frame) → ℕ → ℕ → ℕ → Type 0
HadChangeWithoutRecord form frames from to i = (moment : ℕ) × (from ≤ moment) × (moment ≤ to) × PutsNoRecord form (frames moment) i

-- why such a look at the file of a pen may be refused: it also reads records that a later change has replaced
abbrev pub MayRefuseNews : {R : Type 0} → Encoding R → Shape → (ℕ → List Frame) → ℕ → ℕ → LookFault → Type 0
MayRefuseNews form shape frames from to fault = MayRefuse form shape frames from to fault ⊎ ((i : ℕ) × (fault ≡ NoRecord i) × HadChangeWithoutRecord form frames from to i)

-- what it answers, if the bookmark lies behind known frames that the file had when the look began
abbrev pub AnswersNews : {R : Type 0} → Encoding R → Bookmark → (ℕ → List ℕ) → ℕ → ℕ → ℕ → Result (News R) LookFault → Type 0
AnswersNews form mark held from to synced result =
    (shape : Shape) (frames : ℕ → List Frame) (known : List Frame) → IsPensFile shape held frames → LiesBehind shape known mark → (more : List Frame) × (frames from ≡ known ++ more)
    → MatchResult result (IsNewsAt form shape frames known from to synced) (MayRefuseNews form shape frames from to)

-- ---- the text of a look

-- the text of the frames that came, of records of this width, all of them settled
pub record ReadsOn {R : Type 0} (form : Encoding R) (frames : ℕ → List Frame) (known : List Frame) (from to synced : ℕ) (mark : Bookmark) (bytes : List ℕ) : Type 0 where
  pub wide : mark.shape.width ≡ form.width
  pub gate : ℕ
  pub long : mark.gate + length bytes ≡ gate + 1
  pub looked : LookedOn mark.shape frames known from to gate bytes
  pub settled : looked.came ≢ [] → looked.moment < synced

abbrev pub AnswersText : {R : Type 0} → Encoding R → Bookmark → (ℕ → List ℕ) → ℕ → ℕ → ℕ → Result (Vec ℕ) LookFault → Type 0
AnswersText form mark held from to synced result =
    (shape : Shape) (frames : ℕ → List Frame) (known : List Frame) → IsPensFile shape held frames → LiesBehind shape known mark → (more : List Frame) × (frames from ≡ known ++ more)
    → MatchResult result (λ found. ReadsOn form frames known from to synced mark found.items) (MayRefuse form shape frames from to)
