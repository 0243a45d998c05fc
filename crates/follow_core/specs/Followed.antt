-- What a follower has written of a vector.
use Rattle.std.specs.Prelude.{◌≡◌, ◌≢◌, ℕ, ◌-◌, ◌<◌, ◌≤◌, List, [], length, drop, ◌++◌, Option, Result, MatchResult}
use Rattle.std.specs.Global.{Vec}
use Rattle.std.specs.Io.KnownBytes.{Appends, Keeps}
use Rattle.record_core.specs.Bytes.{Encoding}
use Rattle.segment_core.specs.declared.format.Shape.{Shape}
use Rattle.segment_core.specs.Frame.{Frame}
use Rattle.segment_core.specs.Raw.{AreReadAs}
use Rattle.text_core.specs.Text.{record_lines}
use Rattle.beside_core.specs.declared.since.Since.TheVariants.{Grown}
use Rattle.beside_core.specs.declared.since.Since.TheVariants as sinces
use Rattle.beside_core.specs.PensFile.{IsPensFile}
use Rattle.beside_core.specs.Replay.{vector_left}
use Rattle.beside_core.specs.declared.since.Loss.{Loss}
use Rattle.beside_core.specs.Bookmark.{LiesBehind}
use Rattle.beside_core.specs.Tail.{IsLossBy}
use Rattle.beside_core.specs.Since.{IsSinceAt, MayRefuse}
use Rattle.follow_core.specs.declared.ended.FollowEnd.{FollowEnd}
use Rattle.follow_core.specs.declared.ended.FollowEnd.TheVariants.{Lost, Refused, OutputFailed, Ended, Replaced}
use Rattle.follow_core.specs.declared.following.Reached.{Reached}
use Rattle.follow_core.specs.declared.pause.Rest.{Rest}
use Rattle.follow_core.specs.declared.pause.Rest.TheVariants as rests

-- the records that a look answered were written, but for the first ones, and the bookmark lies behind them
pub record WroteRecords {R : Type 0} (form : Encoding R) (text_of : R → List ℕ) (skip : ℕ) (shape : Shape) (frames : ℕ
    → List Frame) (known : List Frame) (from to synced : ℕ) (old new : Option (List ℕ)) (next : Reached) : Type 0 where
  pub records : Vec R
  pub written : Appends old new (record_lines text_of (drop skip records.items))
  pub since : IsSinceAt form shape frames known from to synced (Grown records next.mark)
  pub skip_is : next.skip ≡ skip - length records.items

-- why nothing was, or not all
abbrev pub EndsLook : {R : Type 0} → Encoding R → Shape → (ℕ → List Frame) → List Frame → ℕ → ℕ → ℕ → Option (List ℕ) → Option (List ℕ) → FollowEnd → Type 0
EndsLook {R} form shape frames known from to synced old new (Lost loss) = Keeps old new × IsSinceAt {R = R} form shape frames known from to synced (sinces.Lost loss)
EndsLook form shape frames known from to synced old new (Refused fault) = Keeps old new × MayRefuse form shape frames from to fault
EndsLook form shape frames known from to synced old new OutputFailed = Unit {0}
EndsLook form shape frames known from to synced old new Ended = ⊥
EndsLook form shape frames known from to synced old new Replaced = ⊥

abbrev pub IsFollowedOn : {R : Type 0} → Encoding R → (R → List ℕ) → Reached → (ℕ → List ℕ) → ℕ → ℕ → ℕ → Option (List ℕ) → Option (List ℕ) → Result Reached FollowEnd → Type 0
IsFollowedOn form text_of reached held from to synced old new result =
    (shape : Shape) (frames : ℕ → List Frame) (known : List Frame) → IsPensFile shape held frames → LiesBehind shape known reached.mark → (more : List Frame) × (frames from ≡ known ++ more)
    → MatchResult result (WroteRecords form text_of reached.skip shape frames known from to synced old new) (EndsLook form shape frames known from to synced old new)

-- these first frames of the file stood at a moment that a sync has settled
pub record AreSettled (frames : ℕ → List Frame) (known : List Frame) (synced : ℕ) : Type 0 where
  pub moment : ℕ
  pub rest : List Frame
  pub stood : frames moment ≡ known ++ rest
  pub settled : moment < synced

-- the lines of the records that the first frames of the file leave, all of them settled, from a position on, each once
pub record HasFollowed {R : Type 0} (form : Encoding R) (text_of : R → List ℕ) (first : ℕ) (frames : ℕ → List Frame) (known : List Frame) (now synced : ℕ) (old new : Option (List ℕ)) : Type 0 where
  pub stand : (more : List Frame) × (frames now ≡ known ++ more)
  pub settled : known ≢ [] → AreSettled frames known synced
  pub records : List R
  pub are : AreReadAs form (vector_left form.width known) records
  pub written : Appends old new (record_lines text_of (drop first records))

-- frames that came behind the known ones have replaced or cut off some of these records
pub record HasLost {R : Type 0} (form : Encoding R) (frames : ℕ → List Frame) (known : List Frame) (now : ℕ) (loss : Loss) : Type 0 where
  pub came : List Frame
  pub rest : List Frame
  pub stand : frames now ≡ (known ++ came) ++ rest
  pub by : IsLossBy (length (vector_left form.width known)) came loss

-- why a follower of a pen's file may have ended, behind the frames whose vector it has written
abbrev pub IsEndBehind : {R : Type 0} → Encoding R → Shape → (ℕ → List Frame) → List Frame → ℕ → FollowEnd → Type 0
IsEndBehind form shape frames known now (Lost loss) = HasLost form frames known now loss
IsEndBehind form shape frames known now (Refused fault) = MayRefuse form shape frames 0 now fault
IsEndBehind form shape frames known now OutputFailed = Unit {0}
IsEndBehind form shape frames known now Ended = Unit {0}
IsEndBehind form shape frames known now Replaced = Unit {0}

abbrev pub HasEndedBehind : {R : Type 0} → Encoding R → (R → List ℕ) → ℕ → (ℕ → List ℕ) → ℕ → ℕ → Option (List ℕ) → Option (List ℕ) → FollowEnd → Type 0
HasEndedBehind form text_of first held now synced old new end =
    (shape : Shape) (frames : ℕ → List Frame) → IsPensFile shape held frames
    → (known : List Frame) × HasFollowed form text_of first frames known now synced old new × IsEndBehind form shape frames known now end

-- where a write has failed, nothing is known of what was written
abbrev pub IsFollowed : {R : Type 0} → Encoding R → (R → List ℕ) → ℕ → (ℕ → List ℕ) → ℕ → ℕ → Option (List ℕ) → Option (List ℕ) → FollowEnd → Type 0
IsFollowed form text_of first held now synced old new (Lost loss) = HasEndedBehind form text_of first held now synced old new (Lost loss)
IsFollowed form text_of first held now synced old new (Refused fault) = HasEndedBehind form text_of first held now synced old new (Refused fault)
IsFollowed form text_of first held now synced old new OutputFailed = Unit {0}
IsFollowed form text_of first held now synced old new Ended = HasEndedBehind form text_of first held now synced old new Ended
IsFollowed form text_of first held now synced old new Replaced = HasEndedBehind form text_of first held now synced old new Replaced

-- the vector of one moment between two was followed, from a position on
abbrev pub HasFollowedWhole : {R : Type 0} → Encoding R → (R → List ℕ) → ℕ → (ℕ → List ℕ) → ℕ → ℕ → ℕ → Option (List ℕ) → Option (List ℕ) → Type 0
HasFollowedWhole form text_of first held from to synced old new =
    (shape : Shape) (frames : ℕ → List Frame) → IsPensFile shape held frames
    → (moment : ℕ) × (from ≤ moment) × (moment ≤ to) × HasFollowed form text_of first frames (frames moment) to synced old new

-- it was, where the pause has ended a follower
abbrev pub IsFollowedWhole : {R : Type 0} → Encoding R → (R → List ℕ) → ℕ → (ℕ → List ℕ) → ℕ → ℕ → ℕ → Option (List ℕ) → Option (List ℕ) → FollowEnd → Type 0
IsFollowedWhole form text_of first held from to synced old new (Lost loss) = Unit {0}
IsFollowedWhole form text_of first held from to synced old new (Refused fault) = Unit {0}
IsFollowedWhole form text_of first held from to synced old new OutputFailed = Unit {0}
IsFollowedWhole form text_of first held from to synced old new Ended = HasFollowedWhole form text_of first held from to synced old new
IsFollowedWhole form text_of first held from to synced old new Replaced = HasFollowedWhole form text_of first held from to synced old new

-- a look has ended a follower, or a write: no pause has
abbrev pub IsEndOfLook : FollowEnd → Type 0
IsEndOfLook Ended = ⊥
IsEndOfLook Replaced = ⊥
IsEndOfLook (Lost loss) = Unit {0}
IsEndOfLook (Refused fault) = Unit {0}
IsEndOfLook OutputFailed = Unit {0}

-- A follower whose pause may give these answers may end so: as ended or replaced only by that answer.
abbrev pub MayEndBy : (Rest → Type 0) → FollowEnd → Type 0
MayEndBy may Ended = may rests.End
MayEndBy may Replaced = may rests.Replaced
MayEndBy may (Lost loss) = Unit {0}
MayEndBy may (Refused fault) = Unit {0}
MayEndBy may OutputFailed = Unit {0}
