use Rattle.std.proofs.Common.{◌≡◌, ◌≤◌, vec_len, vec_capacity}
use Rattle.directory_core.proofs.directory.Directory.with_limit.Given as goal

abbrev pub invariant-loop : goal.invariant-loop
invariant-loop g l = (vec_len l.buckets ≡ l.counter) × (26 ≤ vec_capacity l.buckets)
