use Rattle.std.proofs.Common.{List, take, ℕ}
use Rattle.std.specs.List.{AllByRecursion}
use Rattle.segment_core.specs.Reading.{record_bytes_of}
use Rattle.segment_core.specs.Found.{StandsAt, first_record_of, IsLaid, live_among}
use Rattle.segment_core.proofs.found.laying.lay_all.Given as goal

abbrev pub invariant-loop-k : goal.invariant-loop-k
invariant-loop-k g l = (image : List ℕ) → AllByRecursion (λ change. StandsAt image (first_record_of change) (record_bytes_of change.frame)) l.changes.items
    → IsLaid g.R.Record.form image (live_among g.R.Record.form.width (take l.k l.changes.items)) l.fn.records l.fn.notes l.records l.notes
