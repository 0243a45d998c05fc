use Rattle.std.proofs.Common.{◌≡◌, ◌+◌, ◌*◌, take}
use Rattle.segment_core.specs.Frame.{records_of_runs}
use Rattle.segment_core.specs.Reading.{runs_of}
use Rattle.segment_core.specs.Found.{first_record_of}
use Rattle.segment_core.specs.FrameWalk.{homes_of_runs}
use Rattle.segment_core.proofs.places.run_places.Given as goal

abbrev pub invariant-loop-k : goal.invariant-loop-k
invariant-loop-k l = record {
  homes_are : l.homes.items ≡ homes_of_runs l.change.shape.width (first_record_of l.change) (take l.k (runs_of l.change.frame));
  here : l.place ≡ first_record_of l.change + records_of_runs (take l.k (runs_of l.change.frame)) * l.change.shape.width;
}
