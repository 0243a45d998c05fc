use Rattle.std.specs.Prelude.{◌≤◌, ◌+◌, ◌*◌, ◌^◌, vec_len}
use Rattle.call_tests.specs.Nought.{HasReadWithin}
use Rattle.call_tests.proofs.tests.limits.scanning.scan_longest.Given as goal

abbrev pub invariant-loop-number : goal.invariant-loop-number
invariant-loop-number l = record {
  short : vec_len l.longest ≤ 2 ^ 21;
  read : HasReadWithin (11 + l.number * 2 ^ 21) l.scanner;
}
