-- What ties a world of the growth phase to what is in hand.
use Rattle.std.specs.Prelude.{◌≡◌, ℕ, ◌+◌, ◌<◌, ◌^◌, ◌≤◌, Bool, List, ◌++◌, length, map, sum, slice_get, slice_set, Option, Some, None}
use Rattle.record_core.specs.Bytes.{Encoding}
use Rattle.disk_core.specs.State.{State}
use Rattle.segment_core.specs.Command.{Command, Grow, content}
use Rattle.pen_core.specs.PenOf.{JobOf}
use Rattle.block_core.specs.Growth as block
use Rattle.directory_core.specs.Chain.{IsPrefix, Agree, IsLongerOf}
use Rattle.book_core.specs.Lists as book
use Rattle.book_core.specs.Lists.{Seated, opening_of}
use Rattle.book_core.specs.Growing.{SeatLearns}
use Rattle.flush_core.specs.Flusher.{FlusherOf}
use Rattle.drive_core.specs.Medium.{Medium}
use Rattle.drive_core.specs.Step.{Step, Answer}
use Rattle.drive_core.specs.World.{World, GrowthPhase, Growing, DiskOf, growths_in, hand_of}
use Rattle.drive_core.specs.Outcome.{stray_in}
use Rattle.drive_core.specs.Run.{IsEvent}
use Rattle.drive_core.specs.Headline.{Inner}

-- What is in hand: the book, its seats and its flusher; how many growths were put, and the seat that made the last of
-- them; what the mark was raised to; whether the book was closed.
pub record GrowingOf (R D : Type 0) : Type 0 where
  pub live : book.Phase R
  pub seats : List (Seated R)
  pub flusher : FlusherOf R D
  pub puts : ℕ
  pub last : ℕ
  pub mark : ℕ
  pub closed : Bool

abbrev pub AreSeatsOf : {R : Type 0} → book.Phase R → List (Seated R) → Type 0
AreSeatsOf {R} live seats = (k : ℕ) (seat : Seated R) → slice_get seats k ≡ Some seat → book.IsSeatOf live seat

-- One seat of a row has learnt what another knows: they know the same growth of each number that both know.
pub record MeetsIn {R : Type 0} (old new : List (Seated R)) (k : ℕ) (mine theirs : Seated R) : Type 0 where
  pub met : Seated R
  pub row_is : new ≡ slice_set old k met
  pub learns : SeatLearns mine met
  pub agree : Agree mine.pass.entries theirs.pass.entries
  pub meets : IsLongerOf mine.pass.entries theirs.pass.entries met.pass.entries

abbrev pub grow_of : {R : Type 0} → block.Growth R → Command R
grow_of e = Grow e.records

-- how many growths the job in hand brings
abbrev pub growths_in_hand : Option JobOf → ℕ
growths_in_hand None = 0
growths_in_hand (Some job) = growths_in job.frame

abbrev pub disk_of : {D : Type 0} → (D → List State) → (D → ℕ) → D → DiskOf
disk_of states faults disk = record { states = states disk; faults = faults disk }

pub record IsSeat {R : Type 0} (entries : List (block.Growth R)) (k : ℕ) (seat : Seated R) : Type 0 where
  pub id_is : seat.id ≡ k
  pub knows : IsPrefix seat.pass.entries entries

-- The history is the commands from before the phase, and its growths.
pub record HasGrowths {R : Type 0} (base opening : List R) (history : List (Command R)) (before : ℕ) (entries : List (block.Growth R)) : Type 0 where
  pub first : List (Command R)
  pub history_is : history ≡ first ++ map grow_of entries
  pub before_is : before ≡ length first
  pub opening_is : content base first ≡ opening

-- How much each seat knows, has made and was told. Each knows the first growths, and one knows all.
pub record AreSeated {R : Type 0} (known made told : List ℕ) (seats : List (Seated R)) (count last : ℕ) (entries : List (block.Growth R)) : Type 0 where
  pub known_are : known ≡ map (λ seat. length seat.pass.entries) seats
  pub made_are : made ≡ map (λ seat. length seat.made) seats
  pub told_are : told ≡ map (λ seat. seat.mark.told.count) seats
  -- as many seats as the book counts, which made all growths
  pub seats_are : length made ≡ count
  pub made_sum : sum made ≡ length entries
  pub each : (k : ℕ) (seat : Seated R) → slice_get seats k ≡ Some seat → IsSeat entries k seat
  pub last_knows : 0 < length entries → (seat : Seated R) × (slice_get seats last ≡ Some seat) × (seat.pass.entries ≡ entries)

-- How much the flusher knows and has taken, and what its job in hand brings.
pub record IsFlushing {R D : Type 0} (known taken before settled : ℕ) (entries : List (block.Growth R)) (flusher : FlusherOf R D) : Type 0 where
  pub knows : IsPrefix flusher.pass.entries entries
  pub known_is : known ≡ length flusher.pass.entries
  pub taken_is : taken ≡ flusher.taken
  pub taken_within : taken ≤ length entries
  pub job_brings : flusher.taken ≡ flusher.settled + growths_in_hand flusher.pen.job
  pub settled_is : settled ≡ before + flusher.settled

-- The world is in a growth phase, which is what is in hand: its growths, its seats and its flusher.
pub record IsGrowing {R D : Type 0} (m : Medium R D) (w : World R) (phase : GrowthPhase) (g : GrowingOf R D) : Type 0 where
  pub phase_is : w.phase ≡ Growing phase
  pub calm : w.strayed ≡ None
  pub entries : List (block.Growth R)
  pub growths : HasGrowths w.base (opening_of g.live) w.history phase.before entries
  pub puts_is : g.puts ≡ length entries
  pub room_is : g.live.directory.room ≡ phase.room
  pub closed_is : g.closed ≡ phase.closed
  pub mark_is : g.mark ≡ phase.mark
  pub seats : AreSeated phase.known phase.made phase.told g.seats g.live.seat_count g.last entries
  pub flusher : IsFlushing phase.flusher phase.taken phase.before w.settled entries g.flusher
  pub hand_is : w.hand ≡ hand_of g.flusher.pen
  pub disk_is : w.disk ≡ disk_of m.states m.faults g.flusher.pen.disk

-- Behind a step: the disk is the world's, and the rest too, unless something strayed.
pub record IsBehindStep {R D : Type 0} (m : Medium R D) (w : World R) (g : GrowingOf R D) : Type 0 where
  pub disk_is : w.disk ≡ disk_of m.states m.faults g.flusher.pen.disk
  pub goes_on : w.strayed ≡ None → (phase : GrowthPhase) × IsGrowing m w phase g

-- What a step's function promises: from each world that what was in hand is tied to, an event leads to one that what is
-- in hand is tied to.
pub record Steps {R : Type 0} (form : Encoding R) (keeps : Type 0) (Tied : World R → Type 0) (w : World R) (asked : Step R) (answer : Answer R) (calls : ℕ) : Type 0 where
  pub after : World R
  pub is_event : IsEvent form keeps w (record { asked = asked; answer = answer; calls = calls; after = after })
  pub inner : keeps → Inner form w (record { asked = asked; answer = answer; calls = calls; after = after })
  -- few enough for a count of 64 bits
  pub few : calls < 2 ^ 64
  -- it strays just where it answers so
  pub stray_is : after.strayed ≡ stray_in answer
  pub tied : Tied after
