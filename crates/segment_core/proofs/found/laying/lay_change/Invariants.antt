use Rattle.std.proofs.Common.{◌≡◌, ◌*◌, List, take, ℕ}
use Rattle.segment_core.specs.Frame.{records_of_runs}
use Rattle.segment_core.specs.Reading.{runs_of, record_bytes_of}
use Rattle.segment_core.specs.Vector.{place_in_runs}
use Rattle.segment_core.specs.Found.{StandsAt, first_record_of, IsLaid}
use Rattle.segment_core.proofs.found.laying.lay_change.Given as goal

abbrev pub invariant-loop-k : goal.invariant-loop-k
invariant-loop-k g l = record {
  here : l.at ≡ records_of_runs (take l.k (runs_of l.change.frame)) * g.R.Record.form.width;
  laid : (image : List ℕ) → StandsAt image (first_record_of l.change) (record_bytes_of l.change.frame)
      → IsLaid g.R.Record.form image (λ i. place_in_runs g.R.Record.form.width i (first_record_of l.change) (take l.k (runs_of l.change.frame))) l.fn.records l.fn.notes l.records l.notes;
}
