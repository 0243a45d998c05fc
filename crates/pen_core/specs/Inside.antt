-- A pen by its fields.
use Rattle.std.specs.Prelude.{◌≡◌, ◌≢◌, ℕ, ◌+◌, ◌-◌, ◌<◌, ◌≤◌, ◌^◌, List, [], ◌∷◌, ◌++◌, length, Option, Some, None, true, false, slice_index}
use Rattle.disk_core.specs.State.{State, now, IsImage, is_within, overlay}
use Rattle.segment_core.specs.declared.format.Shape.{Shape}
use Rattle.segment_core.specs.declared.tally.Tally.{Tally}
use Rattle.segment_core.specs.Frame.{Frame, frame_text}
use Rattle.segment_core.specs.Layout.{IsFrame}
use Rattle.segment_core.specs.Tally.{after, tally_of, MayFollow}
use Rattle.pen_core.specs.declared.step.PenStep.{PenStep}
use Rattle.pen_core.specs.declared.step.PenStep.TheVariants.{Body, BodySync, Gate, GateSync}
use Rattle.pen_core.specs.Step.{body_of}
use Rattle.pen_core.specs.Held.{HoldsFrames, gate_of}
use Rattle.pen_core.specs.Known.{PendingIsFolded, IsFileOf, IsShut, IsWritten, IsOnDisk}
use Rattle.pen_core.specs.Vectors.{frame_at, frames_with}
use Rattle.segment_core.specs.Raw.{after_frame}
use Rattle.pen_core.specs.PenLog.{PenLog, frames_read, vector_read}
use Rattle.pen_core.specs.PenOf.{JobOf}
use Rattle.pen_core.specs.Pen.{OpensWith, MayBeOpening}

abbrev pub job_of : Shape → List ℕ → Option PenStep → Option JobOf
job_of shape bytes None = None
job_of shape bytes (Some step) = Some (record { frame = frame_at shape bytes; step = step })

abbrev pub job_in : PenLog → Option JobOf
job_in log = job_of log.shape log.bytes log.step

-- ---- what the pen counts itself

-- The bytes are a frame that may follow, with its gate open, and the next gate, closed.
pub record IsJob (shape : Shape) (gate : ℕ) (tally next : Tally) (bytes : List ℕ) : Type 0 where
  pub spelled : bytes ≡ frame_text shape.format (frame_at shape bytes) ++ 0 ∷ []
  pub whole : IsFrame shape (frame_at shape bytes)
  pub may_follow : MayFollow tally (frame_at shape bytes)
  pub next_is : next ≡ after tally (frame_at shape bytes)
  pub fits : gate + (length bytes - 1) < 2 ^ 48

abbrev pub IsMaybeJob : Shape → ℕ → Tally → Tally → List ℕ → Option PenStep → Type 0
IsMaybeJob shape gate tally next bytes None = Unit {0}
IsMaybeJob shape gate tally next bytes (Some step) = IsJob shape gate tally next bytes

-- ---- what is known of the disk

-- The body of a frame that may follow: with it behind the gate, and the gate open, the file would be the next.
pub record IsBodyOf (shape : Shape) (count gate : ℕ) (frames next : List Frame) (after : List (List ℕ)) (body : List ℕ) (s : State) : Type 0 where
  pub some : 0 < length body
  pub size : gate_of shape next ≡ gate + length body
  pub closed : slice_index body (length body - 1) ≢ 1
  pub pending_is_folded : PendingIsFolded shape count frames next s
  pub holds : HoldsFrames shape next after (overlay (overlay s.seen (gate + 1) body) gate (1 ∷ []))

-- how far the job's frame is, by the call that comes next
abbrev pub IsAtStep : Shape → ℕ → ℕ → List Frame → List Frame → List (List ℕ) → List ℕ → PenStep → State → Type 0
IsAtStep shape count gate frames next after bytes Body s = IsShut gate s × IsBodyOf shape count gate frames next after (body_of bytes) s
IsAtStep shape count gate frames next after bytes BodySync s = IsShut gate s × IsWritten shape count frames next after s
IsAtStep shape count gate frames next after bytes Gate s = IsShut gate s × IsWritten shape count frames next after s × IsOnDisk shape frames next s
IsAtStep shape count gate frames next after bytes GateSync s =
    IsWritten shape count frames next after s × IsOnDisk shape frames next s × (slice_index s.seen gate ≡ 1)

abbrev pub Stands : Shape → ℕ → ℕ → List Frame → List (List ℕ) → List ℕ → Option PenStep → State → Type 0
Stands shape count gate frames vector bytes None s = IsShut gate s
Stands shape count gate frames vector bytes (Some step) s =
    let frame = frame_at shape bytes in
    IsAtStep shape count gate frames (frames_with frames frame) (after_frame shape.width vector frame) bytes step s

-- What a pen knows of its disk. The count is that of a fold whose homes may be pending, 0 where there is none.
pub record Knows (count : ℕ) (log : PenLog) (frames : List Frame) (vector : List (List ℕ)) (s : State) : Type 0 where
  pub gate_is : log.gate ≡ gate_of log.shape frames
  pub tally_is : log.tally ≡ tally_of frames
  pub file : IsFileOf log.shape count frames vector s
  pub images_open : (image : List ℕ) → IsImage s image → OpensWith log.shape frames vector (job_in log) image
  pub gate_pending : is_within s.pending log.gate ≡ true → MayBeOpening (job_in log)
  -- until a call fails
  pub stands : log.broken ≡ false → Stands log.shape count log.gate frames vector log.bytes log.step s

-- The invariant.
pub record IsPen (count : ℕ) (keeps : Type 0) (states : List State) (log : PenLog) (next : Tally) : Type 0 where
  pub wide : (1 ≤ log.shape.width) × (log.shape.width < 2 ^ 16)
  pub gate_fits : log.gate < 2 ^ 64
  pub size_fits : log.tally.size ≤ 2 ^ 32
  pub changes_fit : log.tally.changes ≤ log.gate
  pub folded_counted : log.tally.folded ≤ log.tally.changes
  pub job : IsMaybeJob log.shape log.gate log.tally next log.bytes log.step
  pub knows : keeps → Knows count log (frames_read states log) (vector_read states log) (now states)
