-- What has become of a vector since a reader saw it.
use Rattle.std.specs.Prelude.{◌≡◌, ◌≢◌, ℕ, ◌*◌, ◌<◌, ◌≤◌, List, [], ◌++◌, Some, None, length, slice_get, Result, MatchResult}
use Rattle.std.specs.Global.{Vec}
use Rattle.record_core.specs.Bytes.{Encoding}
use Rattle.record_core.specs.Cells.{AreRecords}
use Rattle.segment_core.specs.declared.fault.ScanFault.TheVariants.{Width}
use Rattle.segment_core.specs.declared.format.Shape.{Shape}
use Rattle.segment_core.specs.Frame.{Frame}
use Rattle.segment_core.specs.Raw.{AreReadAs}
use Rattle.beside_core.specs.declared.bookmark.Bookmark.{Bookmark}
use Rattle.beside_core.specs.declared.fault.LookFault.{LookFault}
use Rattle.beside_core.specs.declared.fault.LookFault.TheVariants.{Disk, Scan, NoRecord, TooFar, Memory}
use Rattle.beside_core.specs.declared.since.Since.{Since}
use Rattle.beside_core.specs.declared.since.Since.TheVariants.{Grown, Lost}
use Rattle.beside_core.specs.Replay.{vector_left}
use Rattle.beside_core.specs.PensFile.{IsPensFile}
use Rattle.beside_core.specs.Bookmark.{LiesBehind}
use Rattle.beside_core.specs.Tail.{IsLossBy, IsDecodeFault}

abbrev pub DecodesTail : {R : Type 0} → Encoding R → ℕ → List ℕ → Result (Vec R) LookFault → Type 0
DecodesTail form position bytes result = (count : ℕ) → length bytes ≡ count * form.width
    → MatchResult result (λ records. (length records.items ≡ count) × AreRecords form bytes records.items) (IsDecodeFault form position bytes count)

-- Known frames left a vector. Behind these, which came since, it has so many records more; or a frame that came has
-- replaced or cut off some that it had.
abbrev pub IsSince : {R : Type 0} → Encoding R → Shape → List Frame → List Frame → Since R → Type 0
IsSince form shape known came (Grown records mark) =
    LiesBehind shape (known ++ came) mark
    × (cells : List (List ℕ)) × (vector_left form.width (known ++ came) ≡ vector_left form.width known ++ cells) × AreReadAs form cells records.items
IsSince form shape known came (Lost loss) = IsLossBy (length (vector_left form.width known)) came loss

-- So it was at one moment of the look; and where frames came, all that stood at that moment is on the device.
pub record IsAtMoment (frames : ℕ → List Frame) (known : List Frame) (from to synced : ℕ) (IsAnswer : List Frame → Type 0) : Type 0 where
  pub moment : ℕ
  pub begun : from ≤ moment
  pub until : moment ≤ to
  pub came : List Frame
  pub frames_are : frames moment ≡ known ++ came
  pub answer : IsAnswer came
  pub settled : came ≢ [] → moment < synced

abbrev pub IsSinceAt : {R : Type 0} → Encoding R → Shape → (ℕ → List Frame) → List Frame → ℕ → ℕ → ℕ → Since R → Type 0
IsSinceAt form shape frames known from to synced since = IsAtMoment frames known from to synced (λ came. IsSince form shape known came since)

-- at one moment of the look the bytes of the record at position i were none of the type
abbrev pub HadNoRecord : {R : Type 0} → Encoding R → (ℕ → List Frame) → ℕ → ℕ → ℕ → Type 0
HadNoRecord form frames from to i =
    (moment : ℕ) × (from ≤ moment) × (moment ≤ to) × (bytes : List ℕ) × (slice_get (vector_left form.width (frames moment)) i ≡ Some bytes) × (form.value_of bytes ≡ None)

-- why a look at the file of a pen may be refused: such a file is never called damaged
abbrev pub MayRefuse : {R : Type 0} → Encoding R → Shape → (ℕ → List Frame) → ℕ → ℕ → LookFault → Type 0
MayRefuse form shape frames from to (Disk fault) = Unit {0}
MayRefuse form shape frames from to (Scan fault) = (shape.width ≢ form.width) × (fault ≡ Width shape.width)
MayRefuse form shape frames from to (NoRecord i) = HadNoRecord form frames from to i
MayRefuse form shape frames from to TooFar = Unit {0}
MayRefuse form shape frames from to Memory = Unit {0}

-- what a look answers of the file of a pen, if the bookmark lies behind known frames that it had when the look began
abbrev pub AnswersSince : {R : Type 0} → Encoding R → Bookmark → (ℕ → List ℕ) → ℕ → ℕ → ℕ → Result (Since R) LookFault → Type 0
AnswersSince form mark held from to synced result =
    (shape : Shape) (frames : ℕ → List Frame) (known : List Frame) → IsPensFile shape held frames → LiesBehind shape known mark → (more : List Frame) × (frames from ≡ known ++ more)
    → MatchResult result (IsSinceAt form shape frames known from to synced) (MayRefuse form shape frames from to)
