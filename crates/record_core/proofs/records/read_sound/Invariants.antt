use Rattle.std.proofs.Common.{◌≡◌, ◌≤◌, ◌+◌, ◌-◌, ◌++◌, List, vec_len, vec_capacity}
use Rattle.record_core.specs.Cells.{HasRead}
use Rattle.record_core.proofs.records.read_sound.Given as goal

abbrev pub invariant-loop-sound : goal.invariant-loop-sound
invariant-loop-sound g l = record {
  inside : l.sound ≤ l.count;
  read : (read : List g.row.R.Denot) × (l.grown.items ≡ l.fn.records.items ++ read) × HasRead g.R.Record.form l.bytes l.sound read;
  room : vec_len l.grown + l.count ≤ vec_capacity l.grown + l.sound;
  capacity : vec_capacity l.fn.records ≤ vec_capacity l.grown;
}

abbrev pub decreases-loop-sound : goal.decreases-loop-sound
decreases-loop-sound g l = l.count - l.sound
