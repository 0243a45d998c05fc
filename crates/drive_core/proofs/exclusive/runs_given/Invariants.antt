use Rattle.std.proofs.Common.{◌≡◌, take}
use Rattle.segment_core.specs.Runs as run_lists
use Rattle.drive_core.specs.Given.{pieces_of}
use Rattle.drive_core.specs.World.{piece_runs}
use Rattle.drive_core.proofs.exclusive.runs_given.Given as goal

abbrev pub invariant-loop-start : goal.invariant-loop-start
invariant-loop-start g l = run_lists.runs_given l.list.items ≡ piece_runs (pieces_of (take l.start-index l.runs))
