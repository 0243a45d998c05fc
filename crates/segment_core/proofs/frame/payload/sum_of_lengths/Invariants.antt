use Rattle.std.proofs.Common.{◌≡◌, ◌≤◌, ◌*◌, ◌^◌, true, drop, sum}
use Rattle.std.specs.Prelude.{nat_lt}
use Rattle.std.specs.List.{list_all}
use Rattle.segment_core.specs.Layout.{numbers_in}
use Rattle.segment_core.proofs.frame.payload.sum_of_lengths.Given as goal

abbrev pub invariant-loop-k : goal.invariant-loop-k
invariant-loop-k l = record {
  positive : list_all (nat_lt 0) (numbers_in l.k (drop 4 l.payload)) ≡ true;
  counted : l.records ≡ sum (numbers_in l.k (drop 4 l.payload));
  small : l.records ≤ l.k * 2 ^ 32;
}
