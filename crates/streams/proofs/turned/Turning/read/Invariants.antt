use Rattle.std.proofs.Common.{◌≡◌, ◌≤◌, length}
use Rattle.streams.proofs.turned.Turning.read.Given as goal

-- what was filled lies within what is to be filled
abbrev pub invariant-loop : goal.invariant-loop
invariant-loop g l = record {
  len : length l.buf ≡ length l.fn.buf;
  inside : l.filled ≤ length l.buf;
}
