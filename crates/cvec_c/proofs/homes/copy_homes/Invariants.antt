use Rattle.std.proofs.Common.{◌≡◌, ◌≤◌, length, take}
use Rattle.cvec_c.specs.Homes.{as_homes}
use Rattle.cvec_c.proofs.homes.copy_homes.Given as goal

abbrev pub invariant-loop-k : goal.invariant-loop-k
invariant-loop-k l = record {
  long : length l.homes ≤ length l.out;
  so_far : as_homes (take l.k l.out) ≡ take l.k l.homes;
}
