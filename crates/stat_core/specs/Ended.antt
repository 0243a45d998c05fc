-- How `stat` ends, and what it writes.
use Rattle.std.specs.Prelude.{ℕ, List, Option, Result, Ok, Err}
use Rattle.std.specs.Io.KnownBytes.{Appends, Keeps}
use Rattle.stat_core.specs.declared.fault.StatFault.{StatFault}
use Rattle.stat_core.specs.declared.summary.Summary.{Summary}
use Rattle.stat_core.specs.declared.telling.StatEnded.{StatEnded}
use Rattle.stat_core.specs.declared.telling.StatEnded.TheVariants.{Done, Refused, Unwritten}
use Rattle.stat_core.specs.declared.writing.Form.{Form}
use Rattle.stat_core.specs.Text.{summary_text}
use Rattle.stat_core.specs.Walked.{IsSummaryOf, IsStatRefusal}

-- The text of the file's summary, nothing, or maybe a part of that text. AreCalls tells of the calls that an answer took.
abbrev pub IsTold : Type 0 → List ℕ → (Result Summary StatFault → Type 0) → Form → Option (List ℕ) → Option (List ℕ) → StatEnded → Type 0
IsTold known image AreCalls form old new Done = (s : Summary) × (known → IsSummaryOf image s) × AreCalls (Ok s) × Appends old new (summary_text form s)
IsTold known image AreCalls form old new (Refused fault) = (known → IsStatRefusal image fault) × AreCalls (Err fault) × Keeps old new
IsTold known image AreCalls form old new (Unwritten error) = (s : Summary) × (known → IsSummaryOf image s) × AreCalls (Ok s)
