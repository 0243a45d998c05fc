-- A walk over the frames of a file that reads none of their records: of each frame what stands before these.
use Rattle.std.specs.Prelude.{◌≡◌, ◌≤◌, ◌<◌, ◌⊎◌, ℕ, ◌+◌, ◌*◌, ◌^◌, min, true, List, [], ◌∷◌, ◌++◌, length, map, Some, slice_index}
use Rattle.std.specs.List.{flat_map, AllByRecursion}
use Rattle.segment_core.specs.declared.fault.ScanFault.{ScanFault}
use Rattle.segment_core.specs.declared.fault.ScanFault.TheVariants.{Memory}
use Rattle.segment_core.specs.declared.format.Format.{Format}
use Rattle.segment_core.specs.declared.format.FrameKind.{FrameKind}
use Rattle.segment_core.specs.declared.format.FrameKind.TheVariants as kinds
use Rattle.segment_core.specs.declared.format.Shape.{Shape}
use Rattle.segment_core.specs.declared.found.Home.{Home}
use Rattle.segment_core.specs.declared.frame_walk.Advance.{Advance}
use Rattle.segment_core.specs.declared.frame_walk.Advance.TheVariants.{Closed, Taken, Needs}
use Rattle.segment_core.specs.declared.frame_walk.Framed.{Framed}
use Rattle.segment_core.specs.declared.frame_walk.FrameWalk.{FrameWalk}
use Rattle.segment_core.specs.declared.places.Places.{Places}
use Rattle.segment_core.specs.declared.tally.Tally.{Tally}
use Rattle.record_core.specs.Limits.{record_limit}
use Rattle.segment_core.specs.Frame.{Run, Frame, Group, Change, Shrink, Fold, runs_len, frame_head_len, open_gate, text}
use Rattle.segment_core.specs.Kind.{kind_byte}
use Rattle.segment_core.specs.Layout.{u32_at, number_at, IsFrame}
use Rattle.segment_core.specs.Tally.{tally_of, AreLegal, MayFollow}
use Rattle.segment_core.specs.Fault.{frame_fault, is_closed, kind_in, payload_len_in}
use Rattle.segment_core.specs.Reading.{Seen, BeginsWith, runs_of}
use Rattle.segment_core.specs.Found.{AreHomes, AreHomesOf, home_among, first_record_of, live_of}
use Rattle.segment_core.specs.Vector.{place_of}

-- the frame with these bytes for its records
abbrev pub with_records : Frame → List ℕ → Frame
with_records (Group lengths bytes) new = Group lengths new
with_records (Change runs bytes) new = Change runs new
with_records (Shrink n) new = Shrink n
with_records (Fold count) new = Fold count

-- ---- what stands before the records

-- the number of growths or runs that these first bytes of a frame tell
abbrev pub heads_in : Format → FrameKind → List ℕ → ℕ
heads_in format kinds.Group front = u32_at front frame_head_len
heads_in format kinds.Change front = number_at format 1 front frame_head_len
heads_in format kinds.Shrink front = 0
heads_in format kinds.Fold front = 0

-- the bytes of a payload before its records, where it has so many growths or runs
abbrev pub heads_len : Format → FrameKind → ℕ → ℕ
heads_len format kinds.Group heads = 4 + heads * 4
heads_len format kinds.Change heads = runs_len format heads
heads_len format kinds.Shrink heads = 8
heads_len format kinds.Fold heads = 8

-- These are all bytes of a frame of so many that stand before its records.
pub record IsFrameFront (format : Format) (kind : FrameKind) (len : ℕ) (front : List ℕ) : Type 0 where
  pub opened : slice_index front 0 ≡ open_gate
  pub kind_is : kind_in front ≡ kind_byte kind
  pub len_is : len ≡ frame_head_len + payload_len_in front
  pub size : length front ≡ frame_head_len + min (payload_len_in front) (heads_len format kind (heads_in format kind front))

-- the bytes are so many, and begin with these
pub record HasPrefix (front : List ℕ) (left : ℕ) (bytes : List ℕ) : Type 0 where
  pub size : length bytes ≡ left
  pub rest : List ℕ
  pub is : bytes ≡ front ++ rest

-- ---- places

-- where the records of runs stand, if they begin at a place
abbrev pub homes_of_runs : ℕ → ℕ → List Run → List Home
homes_of_runs width place [] = []
homes_of_runs width place (run ∷ runs) = record { position = run.start; place = place; count = run.count } ∷ homes_of_runs width (place + run.count * width) runs

abbrev pub homes_of_change : Seen → List Home
homes_of_change change = homes_of_runs change.shape.width (first_record_of change) (runs_of change.frame)

-- where those of each run of the live changes stand, in their order
abbrev pub live_homes : Shape → List Frame → List Home
live_homes shape frames = flat_map homes_of_change (live_of shape frames)

-- the first of its positions, and how many it has
abbrev pub extent_of : Home → ℕ × ℕ
extent_of home = (home.position, home.count)

-- the records of a home end inside so many bytes
abbrev pub EndsInside : ℕ → ℕ → Home → Type 0
EndsInside width size home = 0 < home.count → home.place + home.count * width ≤ size

-- where the records of these frames stand: the home bytes of each position, and the runs of each live change
pub record ArePlaces (shape : Shape) (frames : List Frame) (places : Places) : Type 0 where
  pub homes_are : AreHomes shape frames places.homes.items
  pub live_are : map (λ runs. runs.items) places.live.items ≡ map homes_of_change (live_of shape frames)

-- the frame stands behind these, and may follow them
pub record MayCome (frames : List Frame) (places : Places) (tally : Tally) (seen : Seen) : Type 0 where
  pub places_are : ArePlaces seen.shape frames places
  pub tally_is : tally ≡ tally_of frames
  pub counted : tally.folded ≤ tally.changes
  pub here : seen.at ≡ length (text seen.shape frames)
  pub placed : seen.at < 2 ^ 64
  pub whole : IsFrame seen.shape seen.frame
  pub may : MayFollow tally seen.frame

-- ---- the walk

-- the walk stands behind these frames
pub record HasWalked (frames : List Frame) (walk : FrameWalk) : Type 0 where
  pub wide : 0 < walk.shape.width
  pub legal : AreLegal walk.shape frames
  pub at_end : walk.at ≡ length (text walk.shape frames)
  pub frames_are : walk.frames ≡ length frames
  pub tally_is : walk.tally ≡ tally_of frames
  pub few : (tally_of frames).changes ≤ length frames
  pub small : (tally_of frames).size ≤ record_limit
  pub counted : (tally_of frames).folded ≤ (tally_of frames).changes
  pub places_are : ArePlaces walk.shape frames walk.places

-- one frame further, whichever records it has: of bytes that begin with the front, it is the frame that begins them
pub record IsTaken (old : FrameWalk) (front : List ℕ) (left : ℕ) (new : FrameWalk) : Type 0 where
  pub further : old.at < new.at
  pub inside : new.at ≤ old.at + left
  pub walked : (frames : List Frame) (bytes : List ℕ) → HasWalked frames old → HasPrefix front left bytes
      → (frame : Frame) × BeginsWith old.shape bytes frame × HasWalked (frames ++ frame ∷ []) new

-- what a walk behind these frames has found
pub record IsFramed (frames : List Frame) (framed : Framed) : Type 0 where
  pub wide : 0 < framed.shape.width
  pub legal : AreLegal framed.shape frames
  pub gate_is : framed.gate ≡ length (text framed.shape frames)
  pub frames_are : framed.frames ≡ length frames
  pub tally_is : framed.tally ≡ tally_of frames
  pub homes_are : AreHomesOf framed.shape frames framed.homes
  pub live_is : framed.live.items ≡ live_homes framed.shape frames
  pub homes_inside : AllByRecursion (EndsInside framed.shape.width framed.gate) framed.homes.homes.items
  pub live_inside : AllByRecursion (EndsInside framed.shape.width framed.gate) framed.live.items
  -- the last of all that says it says where the record of a position stands
  pub places_are : (i : ℕ) → i < (tally_of frames).size → home_among framed.shape.width (framed.homes.homes.items ++ framed.live.items) i ≡ place_of framed.shape frames i

-- what the first bytes of what is left came to
abbrev pub HasAdvanced : FrameWalk → List ℕ → ℕ → FrameWalk → Advance → Type 0
HasAdvanced old front left new Closed = (new ≡ old) × ((bytes : List ℕ) → HasPrefix front left bytes → is_closed bytes ≡ true)
HasAdvanced old front left new Taken = IsTaken old front left new
HasAdvanced old front left new (Needs n) = (new ≡ old) × (length front < n) × (n ≤ left)

-- why a walk ends at these bytes: the first fault there, or want of memory
abbrev pub IsEndedBy : FrameWalk → List ℕ → ScanFault → Type 0
IsEndedBy walk bytes fault = (frame_fault walk.shape walk.at walk.tally bytes ≡ Some fault) ⊎ (fault ≡ Memory)
