use Rattle.std.proofs.Common.{◌≡◌, ◌≤◌, ◌+◌, List, length, ℕ, vec_len, vec_capacity}
use Rattle.segment_core.specs.Vector.{place_among}
use Rattle.segment_core.specs.Found.{StandsAt, IsLaid}
use Rattle.segment_core.proofs.found.decoding.grow.Given as goal

abbrev pub invariant-loop-k : goal.invariant-loop-k
invariant-loop-k g l = record {
  longer : length l.records.items ≡ length l.fn.records.items + l.k;
  room : vec_len l.records + l.count ≤ vec_capacity l.records + l.k;
  laid : (image : List ℕ)
      → StandsAt image l.place l.area
      → IsLaid g.R.Record.form image (place_among g.R.Record.form.width l.place (length l.fn.records.items) l.k) l.fn.records.items l.fn.notes l.records.items l.notes;
}
