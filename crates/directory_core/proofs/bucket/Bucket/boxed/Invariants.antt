use Rattle.std.proofs.Common.{◌≡◌, ◌≤◌, vec_len, vec_capacity}
use Rattle.directory_core.specs.Spot.{span}
use Rattle.directory_core.proofs.bucket.Bucket.boxed.Given as goal

abbrev pub invariant-loop : goal.invariant-loop
invariant-loop g l = (vec_len l.cells ≡ l.counter) × (span l.fn.number ≤ vec_capacity l.cells)
