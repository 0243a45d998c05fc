use Rattle.std.proofs.Common.{◌≡◌, ◌≤◌, vec_len, vec_capacity, map, take}
use Rattle.once_cell.specs.Once.{cell_name}
use Rattle.directory_core.specs.Notes.{cells_of}
use Rattle.directory_core.proofs.directory.Directory.pass.Given as goal

abbrev pub invariant-loop-bucket : goal.invariant-loop-bucket
invariant-loop-bucket g l = (vec_len l.buckets ≡ l.bucket-index) × (26 ≤ vec_capacity l.buckets) × (cells_of l.buckets.items ≡ take l.bucket-index (map cell_name l.self-inside.buckets.items))
