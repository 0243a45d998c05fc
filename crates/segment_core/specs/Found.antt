-- What the frames so far say of the vector: the records in the home bytes, where these stand, and the changes
-- that no fold covers.
use Rattle.std.specs.Prelude.{◌≡◌, ◌≤◌, ◌<◌, ℕ, ◌+◌, true, List, [], ◌∷◌, ◌++◌, length, map, take, drop, slice_get, Option, Some, None, MatchOption, ◌⊎◌}
use Rattle.std.specs.List.{flat_map, AllByRecursion}
use Rattle.std.specs.Option.{option_or}
use Rattle.record_core.specs.Bytes.{Encoding}
use Rattle.segment_core.specs.declared.format.Format.{Format}
use Rattle.segment_core.specs.declared.format.Shape.{Shape}
use Rattle.segment_core.specs.declared.fault.ScanFault.{ScanFault}
use Rattle.segment_core.specs.declared.fault.ScanFault.TheVariants.{Memory}
use Rattle.segment_core.specs.declared.found.Found.{Found}
use Rattle.segment_core.specs.declared.found.Home.{Home}
use Rattle.segment_core.specs.declared.found.Homes.{Homes}
use Rattle.segment_core.specs.declared.notes.Notes.{Notes}
use Rattle.segment_core.specs.Shape.{shape_of}
use Rattle.segment_core.specs.Frame.{Frame, Group, Change, Shrink, Fold, header, frame_text, text, frame_head_len}
use Rattle.segment_core.specs.Layout.{IsFrame}
use Rattle.segment_core.specs.Tally.{tally_of, are_inside, MayFollow}
use Rattle.segment_core.specs.Vector.{place_among, place_in_runs, record_in, home_of}
use Rattle.segment_core.specs.declared.fault.Cause.TheVariants.{BadRecord}
use Rattle.segment_core.specs.Fault.{IsBadRecord, damaged}
use Rattle.segment_core.specs.Reading.{Seen, runs_of, record_bytes_of, record_count, head_len}
use Rattle.segment_core.specs.Notes.{noted}
use Rattle.record_core.specs.Limits.{record_limit}

-- ---- bytes at a place

-- these bytes stand at this place of an image
abbrev pub StandsAt : List ℕ → ℕ → List ℕ → Type 0
StandsAt image place bytes = take (length bytes) (drop place image) ≡ bytes

-- where a frame's records begin
abbrev pub first_record_of : Seen → ℕ
first_record_of seen = seen.at + frame_head_len + head_len seen.shape.format seen.frame

-- what is held of a position whose bytes are at a place: their record, or a note of the place where they are none
abbrev pub IsDecoded : {R : Type 0} → Encoding R → List ℕ → ℕ → Option R → Option ℕ → Type 0
IsDecoded form image place held note = MatchOption (record_in form image place) (note ≡ Some place) (λ r. (held ≡ Some r) × (note ≡ None))

-- the same of a position that a place may be told of: with none it is held as before
abbrev pub IsLaidAt : {R : Type 0} → Encoding R → List ℕ → Option ℕ → Option R → Option R → Option ℕ → Option ℕ → Type 0
IsLaidAt form image place held before note note_before = MatchOption place ((held ≡ before) × (note ≡ note_before)) (λ at. IsDecoded form image at held note)

-- the old records and notes gave way to new ones at the positions whose places are told
abbrev pub IsLaid : {R : Type 0} → Encoding R → List ℕ → (ℕ → Option ℕ) → List R → Notes → List R → Notes → Type 0
IsLaid form image says old old_notes new new_notes = (i : ℕ) → i < length new → IsLaidAt form image (says i) (slice_get new i) (slice_get old i) (noted new_notes i) (noted old_notes i)

-- ---- homes

-- where homes say that the bytes of position i stand
abbrev pub home_among : ℕ → List Home → ℕ → Option ℕ
home_among width [] i = None
home_among width (home ∷ homes) i = option_or (home_among width homes i) (place_among width home.place home.position home.count i)

-- each position from start on, up to end, lies in one of these homes
abbrev pub AreInTurn : ℕ → List Home → ℕ → Type 0
AreInTurn start [] end = start ≡ end
AreInTurn start (home ∷ homes) end = (home.position ≡ start) × AreInTurn (start + home.count) homes end

-- the homes of a file's positions: one each, which gives the place of its home bytes
pub record AreHomes (shape : Shape) (frames : List Frame) (homes : List Home) : Type 0 where
  pub in_turn : AreInTurn 0 homes (tally_of frames).size
  pub each : (i : ℕ) → i < (tally_of frames).size → home_among shape.width homes i ≡ home_of shape frames i

-- ---- live changes

-- a frame whose gate is at p, if it is a change
abbrev pub changes_in : Shape → ℕ → Frame → List Seen
changes_in shape p (Group lengths bytes) = []
changes_in shape p (Change runs bytes) = record { at = p; shape = shape; frame = Change runs bytes } ∷ []
changes_in shape p (Shrink n) = []
changes_in shape p (Fold count) = []

abbrev pub changes_from : Shape → ℕ → List Frame → List Seen
changes_from shape p [] = []
changes_from shape p (frame ∷ frames) = changes_in shape p frame ++ changes_from shape (p + length (frame_text shape.format frame)) frames

-- the changes of a file, in order
abbrev pub changes_of : Shape → List Frame → List Seen
changes_of shape frames = changes_from shape (length (header shape)) frames

-- and those of them that no fold covers
abbrev pub live_of : Shape → List Frame → List Seen
live_of shape frames = drop (tally_of frames).folded (changes_of shape frames)

-- where changes say what stands at position i: the last one that does
abbrev pub live_among : ℕ → List Seen → ℕ → Option ℕ
live_among width [] i = None
live_among width (change ∷ changes) i = option_or (live_among width changes i) (place_in_runs width i (first_record_of change) (runs_of change.frame))

-- the records of changes were laid over those of their positions, in any image in which the changes stand
abbrev pub AreLaid : {R : Type 0} → Encoding R → List Seen → List R → Notes → List R → Notes → Type 0
AreLaid form changes old old_notes new new_notes = (image : List ℕ) → AllByRecursion (λ change. StandsAt image (first_record_of change) (record_bytes_of change.frame)) changes
    → IsLaid form image (live_among form.width changes) old old_notes new new_notes

-- start and count of each run
abbrev pub pairs_of : Seen → List (ℕ × ℕ)
pairs_of change = map (λ run. (run.start, run.count)) (runs_of change.frame)

-- each run lies inside a vector of this length
abbrev pub IsInside : ℕ → Seen → Type 0
IsInside size change = are_inside size (runs_of change.frame) ≡ true

-- ---- what was found

-- what is held of a position whose home bytes are at a place of the text
abbrev pub HasHome : {R : Type 0} → Encoding R → List ℕ → Option ℕ → Option R → Option ℕ → Type 0
HasHome form bytes home held note = (place : ℕ) × (home ≡ Some place) × (place + form.width ≤ length bytes) × IsDecoded form bytes place held note

-- what the frames so far say, as far as bytes behind them don't matter
pub record IsFound {R : Type 0} (form : Encoding R) (format : Format) (frames : List Frame) (found : Found R) : Type 0 where
  pub size_is : length found.records.items ≡ (tally_of frames).size
  pub small : (tally_of frames).size ≤ record_limit
  pub each : (i : ℕ)
      → i < (tally_of frames).size
      → HasHome form (text (shape_of format form) frames) (home_of (shape_of format form) frames i) (slice_get found.records.items i) (noted found.notes i)
  pub homes : AreHomes (shape_of format form) frames found.homes.items
  pub folded_is : found.folded ≡ (tally_of frames).folded
  pub counted : (tally_of frames).folded ≤ (tally_of frames).changes
  pub live_is : found.live.items ≡ live_of (shape_of format form) frames
  pub inside : AllByRecursion (IsInside (tally_of frames).size) found.live.items

-- a frame that stands behind those that were found, and may follow them
pub record StandsNext {R : Type 0} (form : Encoding R) (frames : List Frame) (found : Found R) (seen : Seen) : Type 0 where
  pub behind : IsFound form seen.shape.format frames found
  pub wide : seen.shape.width ≡ form.width
  pub here : seen.at ≡ length (text seen.shape frames)
  pub whole : IsFrame seen.shape seen.frame
  pub may : MayFollow (tally_of frames) seen.frame

-- ---- the steps

-- a group was taken in
pub record IsGrown {R : Type 0} (form : Encoding R) (seen : Seen) (old new : Found R) : Type 0 where
  pub longer : length new.records.items ≡ length old.records.items + record_count seen.frame
  pub laid : (image : List ℕ) → StandsAt image (first_record_of seen) (record_bytes_of seen.frame)
      → IsLaid form image (place_among form.width (first_record_of seen) (length old.records.items) (record_count seen.frame)) old.records.items old.notes new.records.items new.notes
  pub home : new.homes.items ≡ old.homes.items ++ record { position = length old.records.items; place = first_record_of seen; count = record_count seen.frame } ∷ []
  pub folded_is : new.folded ≡ old.folded
  pub live_is : new.live.items ≡ old.live.items

-- the same is said of the positions, and of their homes
pub record IsSame {R : Type 0} (old new : Found R) : Type 0 where
  pub records_are : new.records.items ≡ old.records.items
  pub notes_are : (i : ℕ) → noted new.notes i ≡ noted old.notes i
  pub homes_are : new.homes.items ≡ old.homes.items

-- the vector was cut
pub record IsCut {R : Type 0} (size : ℕ) (old new : Found R) : Type 0 where
  pub records_are : new.records.items ≡ take size old.records.items
  pub notes_are : (i : ℕ) → i < size → noted new.notes i ≡ noted old.notes i
  pub in_turn : AreInTurn 0 new.homes.items size
  pub homes_are : (width i : ℕ) → i < size → home_among width new.homes.items i ≡ home_among width old.homes.items i
  pub folded_is : new.folded ≡ old.folded
  pub live_is : new.live.items ≡ old.live.items

-- the image begins with the text of these frames
abbrev pub BeginsWithText : Shape → List ℕ → List Frame → Type 0
BeginsWithText shape image frames = (rest : List ℕ) × (image ≡ text shape frames ++ rest)

-- the fault names the least position that is noted
abbrev pub IsLeastNoted : ℕ → Notes → ScanFault → Type 0
IsLeastNoted size notes fault = (i : ℕ) × (place : ℕ) × (i < size) × (noted notes i ≡ Some place) × ((k : ℕ) → k < i → noted notes k ≡ None) × (fault ≡ damaged place BadRecord)

-- why there are no records in the end: the first bad one, or want of memory
abbrev pub IsNoVector : {R : Type 0} → Format → Encoding R → List ℕ → List Frame → ScanFault → Type 0
IsNoVector format form image frames fault = IsBadRecord format form image frames fault ⊎ (fault ≡ Memory)

-- what a writer that goes on has to know of the file: the homes, and the runs of the live changes in order
pub record AreHomesOf (shape : Shape) (frames : List Frame) (homes : Homes) : Type 0 where
  pub homes_are : AreHomes shape frames homes.homes.items
  pub live_is : homes.live.items ≡ flat_map pairs_of (live_of shape frames)
