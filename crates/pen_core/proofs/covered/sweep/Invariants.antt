use Rattle.std.proofs.Common.{◌≤◌, length}
use Rattle.std.specs.Prelude.{vec_capacity}
use Rattle.pen_core.proofs.Covers.{IsSwept}
use Rattle.pen_core.proofs.covered.sweep.Given as goal

abbrev pub invariant-loop-k : goal.invariant-loop-k
invariant-loop-k l = record {
  swept : IsSwept l.runs l.k l.start l.end l.cover.items;
  most : l.k ≤ length l.runs;
  room : length l.runs ≤ vec_capacity l.cover;
}
