use Rattle.std.proofs.Common.{◌≡◌, ◌≤◌, ◌*◌, ◌^◌, true, take}
use Rattle.std.specs.Prelude.{nat_lt}
use Rattle.std.specs.List.{list_all}
use Rattle.segment_core.specs.Frame.{records_of_runs}
use Rattle.segment_core.specs.Layout.{runs_in}
use Rattle.segment_core.proofs.frame.payload.sum_of_runs.Given as goal

abbrev pub invariant-loop-k : goal.invariant-loop-k
invariant-loop-k l = record {
  positive : list_all (λ run. nat_lt 0 run.count) (take l.k (runs_in l.shape l.payload)) ≡ true;
  counted : l.records ≡ records_of_runs (take l.k (runs_in l.shape l.payload));
  small : l.records ≤ l.k * 2 ^ 32;
}
