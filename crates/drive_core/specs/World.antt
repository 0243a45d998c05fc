-- Where a run of steps stands.
use Rattle.std.specs.Prelude.{ℕ, ◌+◌, ◌-◌, ◌*◌, Bool, false, nat_lt, nat_le, if◌then◌else◌, List, [], ◌∷◌, length, take, drop, map, Option, Some, None, replicate}
use Rattle.record_core.specs.Bytes.{Encoding}
use Rattle.disk_core.specs.State.{State}
use Rattle.segment_core.specs.declared.format.Format.TheVariants.{One}
use Rattle.segment_core.specs.declared.format.Shape.{Shape}
use Rattle.segment_core.specs.Shape.{limit_of}
use Rattle.segment_core.specs.Frame.{Run, Frame, frame_text}
use Rattle.segment_core.specs.Frame as frames
use Rattle.segment_core.specs.Tally.{after}
use Rattle.segment_core.specs.Written.{group_frame, joined}
use Rattle.segment_core.specs.Runs.{change_frame}
use Rattle.segment_core.specs.Command.{Command, Grow, Shrink, Change, content}
use Rattle.pen_core.specs.PenOf.{PenOf, JobOf, FoldOf}
use Rattle.pen_core.specs.Refusals.{one_run}

-- ---- a growth phase

-- Its growths are numbered from 0, as its seats are; a pass knows the first so many of them.
pub record GrowthPhase : Type 0 where
  -- the commands of the history from before the phase
  pub before : ℕ
  pub room : ℕ
  pub closed : Bool
  -- what each seat's pass knows, and what the flusher's does
  pub known : List ℕ
  pub flusher : ℕ
  -- how many growths each seat has made
  pub made : List ℕ
  -- how many growths are in the file or in the job in hand
  pub taken : ℕ
  -- the mark's count, and what each seat has last read of it
  pub mark : ℕ
  pub told : List ℕ

pub data DrivePhase : Type 0 where
  Shut : DrivePhase
  Exclusive : DrivePhase
  Growing : GrowthPhase → DrivePhase

-- ---- what a pen has in hand

-- what it counts of its file: the place of the closed gate, the changes, and the count of the last Fold
pub record File : Type 0 where
  pub shape : Shape
  pub gate : ℕ
  pub changes : ℕ
  pub folded : ℕ

-- with the job and the fold in hand, and whether a call of the device has failed. All of it stands on every disk.
pub record Hand : Type 0 where
  pub file : File
  pub job : Option JobOf
  pub fold : Option FoldOf
  pub broken : Bool

abbrev pub hand_of : {D : Type 0} → PenOf D → Hand
hand_of pen = record {
  file = record { shape = pen.shape; gate = pen.gate; changes = pen.tally.changes; folded = pen.tally.folded };
  job = pen.job;
  fold = pen.fold;
  broken = pen.broken;
}

-- a pen that counts this, over a vector of this length: the pen's tables of refusals are read of it
abbrev pub as_pen : Hand → ℕ → PenOf (Unit {0})
as_pen hand size = record {
  disk = tt;
  shape = hand.file.shape;
  frames = [];
  vector = [];
  job = hand.job;
  fold = hand.fold;
  broken = hand.broken;
  tally = record { size = size; changes = hand.file.changes; folded = hand.file.folded };
  gate = hand.file.gate;
  room = 0;
  places = 0;
}

abbrev pub is_live : File → Bool
is_live file = nat_lt file.folded file.changes

-- the file with one frame more
abbrev pub file_with : File → Frame → File
file_with file frame =
    let tally = after (record { size = 0; changes = file.changes; folded = file.folded }) frame in
    record { shape = file.shape; gate = file.gate + length (frame_text file.shape.format frame); changes = tally.changes; folded = tally.folded }

-- how many growths a frame brings
abbrev pub growths_in : Frame → ℕ
growths_in (frames.Group lengths bytes) = length lengths
growths_in (frames.Change runs bytes) = 0
growths_in (frames.Shrink n) = 0
growths_in (frames.Fold count) = 0

-- ---- the world

pub record DiskOf : Type 0 where
  pub states : List State
  pub faults : ℕ

pub record World (R : Type 0) : Type 0 where
  pub phase : DrivePhase
  -- the vector that was opened, the commands since, and how many of these are settled
  pub base : List R
  pub history : List (Command R)
  pub settled : ℕ
  pub hand : Hand
  -- the first growth found that no step made
  pub strayed : Option ℕ
  pub disk : DiskOf

abbrev pub no_hand : Hand
no_hand = record { file = record { shape = record { format = One; width = 0 }; gate = 0; changes = 0; folded = 0 }; job = None; fold = None; broken = false }

abbrev pub start : {R : Type 0} → DiskOf → World R
start disk = record { phase = Shut; base = []; history = []; settled = 0; hand = no_hand; strayed = None; disk = disk }

abbrev pub vector : {R : Type 0} → World R → List R
vector w = content w.base w.history

-- the list after the first so many growths of the phase
abbrev pub vector_at : {R : Type 0} → World R → GrowthPhase → ℕ → List R
vector_at w phase known = content w.base (take (phase.before + known) w.history)

abbrev pub phase_growths : {R : Type 0} → World R → GrowthPhase → List (Command R)
phase_growths w phase = drop phase.before w.history

-- ---- what a group takes

abbrev pub command_records : {R : Type 0} → Command R → List R
command_records (Grow records) = records
command_records (Shrink n) = []
command_records (Change runs records) = records

-- how many of these growths so many bytes hold, each with its length
abbrev pub fitting : {R : Type 0} → ℕ → ℕ → List (List R) → ℕ
fitting width room [] = 0
fitting width room (growth ∷ growths) = if nat_le (4 + length growth * width) room then 1 + fitting width (room - (4 + length growth * width)) growths else 0

-- the growths that the flusher knows and has not taken
abbrev pub waiting : {R : Type 0} → World R → GrowthPhase → List (List R)
waiting w phase = map command_records (take (phase.flusher - phase.taken) (drop phase.taken (phase_growths w phase)))

-- the first of them, as many as one payload of the file holds
abbrev pub next_group : {R : Type 0} → ℕ → World R → GrowthPhase → List (List R)
next_group width w phase = take (fitting width (limit_of w.hand.file.shape.format - 4) (waiting w phase)) (waiting w phase)

-- ---- what an exclusive command writes

abbrev pub frame_of : {R : Type 0} → Encoding R → Command R → Frame
frame_of form (Grow records) = group_frame form (records ∷ [])
frame_of form (Shrink n) = frames.Shrink n
frame_of form (Change runs records) = change_frame form runs (records ∷ [])

abbrev pub changed : {R : Type 0} → ℕ → List R → Option (Command R)
changed start [] = None
changed start (r ∷ records) = Some (Change (one_run start (length (r ∷ records))) (r ∷ records))

abbrev pub piece_runs : {R : Type 0} → List (ℕ × List R) → List Run
piece_runs pieces = map (λ piece. record { start = piece.0; count = length piece.1 }) pieces

-- several runs are one command
abbrev pub changed_runs : {R : Type 0} → List (ℕ × List R) → Option (Command R)
changed_runs [] = None
changed_runs (piece ∷ pieces) = Some (Change (piece_runs (piece ∷ pieces)) (joined (map (λ piece. piece.1) (piece ∷ pieces))))

-- a resize upwards is one growth of copies; to the length that is there it writes nothing
abbrev pub resize_command : {R : Type 0} → ℕ → ℕ → R → Option (Command R)
resize_command size n r = if nat_lt size n then Some (Grow (replicate (n - size) r)) else if nat_lt n size then Some (Shrink n) else None

abbrev pub cleared : {R : Type 0} → ℕ → Option (Command R)
cleared size = if nat_lt 0 size then Some (Shrink 0) else None
