use Rattle.std.proofs.Common.{◌≡◌, ◌≤◌, ◌++◌, take, vec_capacity}
use Rattle.std.specs.List.{flat_map}
use Rattle.record_core.specs.Cells.{AreReadAgain}
use Rattle.segment_core.specs.Written.{joined}
use Rattle.segment_core.proofs.group.append_growths.Given as goal

abbrev pub invariant-loop-k : goal.invariant-loop-k
invariant-loop-k g l = record {
  bytes : l.file.items ≡ l.fn.file.items ++ flat_map g.R.Record.form.bytes_of (joined (take l.k (g.G.GrowthList.growths l.group)));
  read_again : AreReadAgain g.R.Record.form (joined (take l.k (g.G.GrowthList.growths l.group)));
  capacity : vec_capacity l.fn.file ≤ vec_capacity l.file;
}
