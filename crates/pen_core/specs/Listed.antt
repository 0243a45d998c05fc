-- The lists that a pen keeps of its file: where home bytes stand, and the runs of the live changes. A job in hand is
-- entered when it begins, behind what is told of the file, so that its last tick takes no memory.
use Rattle.std.specs.Prelude.{◌≡◌, ℕ, ◌+◌, ◌-◌, ◌*◌, List, [], ◌∷◌, ◌++◌, length, map, take, sum, Option, Some, None}
use Rattle.std.specs.List.{flat_map}
use Rattle.disk_core.specs.State.{State}
use Rattle.segment_core.specs.declared.format.Shape.{Shape}
use Rattle.segment_core.specs.declared.found.Home.{Home}
use Rattle.segment_core.specs.declared.found.Homes.{Homes}
use Rattle.segment_core.specs.Frame.{Frame, Group, Change, Shrink}
use Rattle.segment_core.specs.Frame as kinds
use Rattle.segment_core.specs.Tally.{tally_of, AreLegal}
use Rattle.segment_core.specs.Blanked.{all_blanked}
use Rattle.segment_core.specs.Found.{AreHomes, pairs_of, live_of}
use Rattle.pen_core.specs.declared.fold.Fold.{Fold}
use Rattle.pen_core.specs.declared.stage.FoldStage.TheVariants.{Filed}
use Rattle.pen_core.specs.Held.{gate_of}
use Rattle.pen_core.specs.PenLog.{PenLog, frames_read}
use Rattle.pen_core.specs.InHand.{frame_in_hand, IsInHand}

-- what a frame that begins behind a file of so many bytes and records enters among the homes
abbrev pub homes_entered : ℕ → ℕ → Frame → List Home
homes_entered gate size (Group lengths bytes) = record { position = size; place = gate + 10 + length lengths * 4; count = sum lengths } ∷ []
homes_entered gate size (Change runs bytes) = []
homes_entered gate size (Shrink n) = []
homes_entered gate size (kinds.Fold count) = []

-- and among the live runs
abbrev pub runs_entered : Frame → List (ℕ × ℕ)
runs_entered (Group lengths bytes) = []
runs_entered (Change runs bytes) = map (λ run. (run.start, run.count)) runs
runs_entered (Shrink n) = []
runs_entered (kinds.Fold count) = []

abbrev pub homes_ahead : ℕ → ℕ → Option Frame → List Home
homes_ahead gate size None = []
homes_ahead gate size (Some frame) = homes_entered gate size frame

abbrev pub runs_ahead : Option Frame → List (ℕ × ℕ)
runs_ahead None = []
runs_ahead (Some frame) = runs_entered frame

-- the runs of the live changes of a file
abbrev pub live_runs : Shape → List Frame → List (ℕ × ℕ)
live_runs shape frames = flat_map pairs_of (live_of shape frames)

-- What the lists tell of a file of these frames, and of a frame in hand; the first `live` runs are the file's.
pub record Lists (shape : Shape) (frames : List Frame) (ahead : Option Frame) (homes : Homes) (live : ℕ) : Type 0 where
  pub told : List Home
  pub are_homes : AreHomes shape frames told
  pub homes_are : homes.homes.items ≡ told ++ homes_ahead (gate_of shape frames) (tally_of frames).size ahead
  pub live_is : homes.live.items ≡ live_runs shape frames ++ runs_ahead ahead
  pub counted : live ≡ length (live_runs shape frames)

-- What the lists of a pen are, whatever its disk: there are frames which it has committed, and of which they tell.
-- Where the disk keeps the model, the file has these frames.
pub record HasLists (keeps : Type 0) (states : List State) (log : PenLog) (homes : Homes) (live : ℕ) (fold : Fold) : Type 0 where
  pub frames : List Frame
  pub legal : AreLegal log.shape frames
  pub gate_is : log.gate ≡ gate_of log.shape frames
  pub tally_is : log.tally ≡ tally_of frames
  pub lists : Lists log.shape frames (frame_in_hand log.shape log.bytes log.step) homes live
  -- the frame of a fold is the job of a fold in hand alone
  pub filed : (count : ℕ) → frame_in_hand log.shape log.bytes log.step ≡ Some (kinds.Fold count)
      → (fold.stage ≡ Filed) × (count ≡ fold.count)
  pub runs_are : IsInHand fold.stage
      → fold.runs ≡ length (flat_map pairs_of (take (fold.count - log.tally.folded) (live_of log.shape frames)))
  pub same : keeps → frames_read states log ≡ all_blanked frames
