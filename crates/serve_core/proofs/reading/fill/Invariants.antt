use Rattle.std.proofs.Common.{◌≡◌, ◌≤◌, length, take}
use Rattle.std.specs.Io.KnownBytes.{Consumes}
use Rattle.serve_core.proofs.reading.fill.Given as goal

-- what was filled is what was read
abbrev pub invariant-loop : goal.invariant-loop
invariant-loop g l = record {
  len : length l.buffer ≡ length l.fn.buffer;
  inside : l.at ≤ length l.buffer;
  read : Consumes (g.I.Read.remaining l.fn.requests) (g.I.Read.remaining l.requests) (take l.at l.buffer);
}
