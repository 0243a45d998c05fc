use Rattle.std.proofs.Common.{List, ℕ}
use Rattle.segment_core.specs.Vector.{place_among}
use Rattle.segment_core.specs.Found.{StandsAt, IsLaid}
use Rattle.segment_core.proofs.found.laying.lay.Given as goal

abbrev pub invariant-loop-k : goal.invariant-loop-k
invariant-loop-k g l =
    (image : List ℕ)
    → StandsAt image l.place l.area
    → IsLaid g.R.Record.form image (place_among g.R.Record.form.width l.place l.start l.k) l.fn.records l.fn.notes l.records l.notes
