-- What a pen counts itself of its file, and of the job in hand.
use Rattle.std.specs.Prelude.{ℕ, Bool, List, Option, None}
use Rattle.disk_core.specs.State.{State}
use Rattle.disk_core.specs.Calls.{bytes_of}
use Rattle.segment_core.specs.declared.format.Shape.{Shape}
use Rattle.segment_core.specs.declared.tally.Tally.{Tally}
use Rattle.segment_core.specs.Frame.{Frame}
use Rattle.segment_core.specs.Parsed.{vector_before}
use Rattle.pen_core.specs.declared.step.PenStep.{PenStep}
use Rattle.pen_core.specs.Vectors.{blanked_before}

-- The gate behind the file's frames, and what these leave; the job's bytes, and the device call that comes next.
pub record PenLog : Type 0 where
  pub shape : Shape
  pub gate : ℕ
  pub tally : Tally
  pub bytes : List ℕ
  pub step : Option PenStep
  pub broken : Bool

-- the frames and the vector that a read of the disk gives, cut at the gate
abbrev pub frames_read : List State → PenLog → List Frame
frames_read states log = blanked_before log.shape log.gate (bytes_of states)

abbrev pub vector_read : List State → PenLog → List (List ℕ)
vector_read states log = vector_before log.shape log.gate (bytes_of states)

-- once the job is done, and the gate has moved
abbrev pub job_over : PenLog → ℕ → Tally → PenLog
job_over log gate tally = record log { gate = gate; tally = tally; step = None }
