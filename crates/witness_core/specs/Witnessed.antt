-- A pen whose file may be read beside it.
use Rattle.std.specs.Prelude.{◌≡◌, ◌⊎◌, ℕ, ◌+◌, ◌-◌, ◌<◌, ◌≤◌, ◌^◌, List, [], ◌∷◌, ◌++◌, length, slice_index, Option, Some, None, false}
use Rattle.std.specs.List.{AllByRecursion}
use Rattle.disk_core.specs.State.{State}
use Rattle.disk_core.specs.Calls.{bytes_of}
use Rattle.disk_core.specs.Moments.{clock}
use Rattle.segment_core.specs.declared.format.Shape.{Shape}
use Rattle.segment_core.specs.Frame.{Frame}
use Rattle.segment_core.specs.Blanked.{all_blanked}
use Rattle.pen_core.specs.declared.step.PenStep.{PenStep}
use Rattle.pen_core.specs.declared.step.PenStep.TheVariants.{Body, BodySync, Gate, GateSync}
use Rattle.pen_core.specs.PenOf.{PenOf, JobOf, FoldOf, HomeWrite}
use Rattle.pen_core.specs.Step.{body_of}
use Rattle.pen_core.specs.Pen.{IsKept, job_bytes}
use Rattle.beside_core.specs.PensFile.{IsPensFile}
use Rattle.beside_core.specs.Replay.{replayed, vector_left}
use Rattle.witness_core.specs.FileMoments.{IsHeldSince}
use Rattle.witness_core.specs.Shown.{HasShown}

-- The file shows what was written, or the frame of the job too: its gate is open, and not yet known to be on the device.
abbrev pub ShowsWith : List Frame → Option JobOf → List Frame → Type 0
ShowsWith written None shown = shown ≡ written
ShowsWith written (Some job) shown = (shown ≡ written) ⊎ (shown ≡ written ++ job.frame ∷ [])

-- the job's frame stands behind its gate, and the next gate
abbrev pub HasBody : Shape → ℕ → JobOf → List ℕ → Type 0
HasBody shape gate job bytes = (i : ℕ) → i < length (body_of (job_bytes shape job)) → slice_index bytes (gate + 1 + i) ≡ slice_index (body_of (job_bytes shape job)) i

-- by the call of the job that comes next, until one has failed
abbrev pub ShowsAtStep : Shape → ℕ → List Frame → List Frame → JobOf → List ℕ → PenStep → Type 0
ShowsAtStep shape gate written shown job bytes Body = shown ≡ written
ShowsAtStep shape gate written shown job bytes BodySync = (shown ≡ written) × HasBody shape gate job bytes
ShowsAtStep shape gate written shown job bytes Gate = (shown ≡ written) × HasBody shape gate job bytes
ShowsAtStep shape gate written shown job bytes GateSync = shown ≡ written ++ job.frame ∷ []

abbrev pub ShowsInTurn : Shape → ℕ → List Frame → List Frame → List ℕ → Option JobOf → Type 0
ShowsInTurn shape gate written shown bytes None = shown ≡ written
ShowsInTurn shape gate written shown bytes (Some job) = ShowsAtStep shape gate written shown job bytes job.step

-- the home writes that are left end at the gate or before
abbrev pub EndBelow : ℕ → List HomeWrite → Type 0
EndBelow gate left = AllByRecursion (λ write. write.place + length write.bytes ≤ gate) left

abbrev pub HomesEndBelow : ℕ → Option FoldOf → Type 0
HomesEndBelow gate None = Unit {0}
HomesEndBelow gate (Some fold) = EndBelow gate fold.left

-- What a pen was when it began to be witnessed: the clock of its disk, its frames but for home bytes, and its vector.
pub record WitnessStart : Type 0 where
  pub clock_was : ℕ
  pub frames : List Frame
  pub vector : List (List ℕ)

abbrev pub witness_start : {D : Type 0} → List State → PenOf D → WitnessStart
witness_start states pen = record { clock_was = clock states; frames = pen.frames; vector = pen.vector }

-- Frames have come behind those of then, and have made of the vector of then the one of now.
pub record HaveCome (from : WitnessStart) (width : ℕ) (written : List Frame) (vector : List (List ℕ)) : Type 0 where
  pub first : List Frame
  pub first_as : all_blanked first ≡ from.frames
  pub came : List Frame
  pub written_is : written ≡ first ++ came
  pub vector_is : vector ≡ replayed width from.vector came

-- From that beginning on, each call has left a reader the frames of the pen's file.
pub record IsWitnessed {D : Type 0} (from : WitnessStart) (states : List State) (pen : PenOf D) : Type 0 where
  pub begun : from.clock_was ≤ clock states
  pub kept : IsKept states pen
  pub wide : (0 < pen.shape.width) × (pen.shape.width < 2 ^ 16)
  -- the pen's frames as they were first written, or as they stood at the beginning
  pub written : List Frame
  pub written_as : all_blanked written ≡ pen.frames
  pub have_come : HaveCome from pen.shape.width written pen.vector
  pub shown : List Frame
  pub has_shown : HasShown pen.shape (clock states - from.clock_was) states shown
  pub shows : ShowsWith written pen.job shown
  pub in_turn : pen.broken ≡ false → ShowsInTurn pen.shape pen.gate written shown (bytes_of states) pen.job
  pub homes_below : HomesEndBelow pen.gate pen.fold

-- At each moment the file has the pen's frames of that moment, behind a closed gate; from the end of the last call on, the
-- pen's frames now, or the job's too.
pub record IsFileOfPen {D : Type 0} (from : WitnessStart) (held : ℕ → List ℕ) (end : ℕ) (pen : PenOf D) : Type 0 where
  pub frames : ℕ → List Frame
  pub file : IsPensFile pen.shape held frames
  pub written : List Frame
  pub written_as : all_blanked written ≡ pen.frames
  pub have_come : HaveCome from pen.shape.width written pen.vector
  -- where the frames of the beginning, replayed, made its vector, so do those of now: of a file that was created they did
  pub replays : vector_left pen.shape.width have_come.first ≡ from.vector → vector_left pen.shape.width written ≡ pen.vector
  pub now : (t : ℕ) → end ≤ t → ShowsWith written pen.job (frames t)

-- whatever the file held at the moments within the calls
abbrev pub HoldsPensFile : {D : Type 0} → WitnessStart → List State → PenOf D → Type 0
HoldsPensFile from states pen = (held : ℕ → List ℕ) → (is : IsHeldSince from.clock_was states held) → IsFileOfPen from held is.end pen
