use Rattle.std.proofs.Common.{◌≡◌, ◌≤◌, ◌+◌, ◌-◌, List, length, ℕ, vec_len, vec_capacity}
use Rattle.segment_core.specs.Vector.{place_among}
use Rattle.segment_core.specs.Found.{StandsAt, IsLaid}
use Rattle.segment_core.proofs.found.decoding.grow_sound.Given as goal

abbrev pub invariant-loop-sound : goal.invariant-loop-sound
invariant-loop-sound g l = record {
  inside : l.sound ≤ l.count;
  longer : length l.grown.items ≡ length l.fn.records.items + l.sound;
  room : vec_len l.grown + l.count ≤ vec_capacity l.grown + l.sound;
  laid : (image : List ℕ) (place : ℕ)
      → StandsAt image place l.area
      → IsLaid g.R.Record.form image (place_among g.R.Record.form.width place (length l.fn.records.items) l.sound) l.fn.records.items l.notes l.grown.items l.notes;
}

abbrev pub decreases-loop-sound : goal.decreases-loop-sound
decreases-loop-sound g l = l.count - l.sound
