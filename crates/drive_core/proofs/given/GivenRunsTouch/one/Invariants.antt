use Rattle.std.proofs.Common.{◌≡◌, drop}
use Rattle.drive_core.specs.Given.{given_by_runs, pieces_of}
use Rattle.drive_core.proofs.given.GivenRunsTouch.one.Given as goal

abbrev pub invariant-loop-start : goal.invariant-loop-start
invariant-loop-start g l = given_by_runs (pieces_of l.fn.self.runs.now) l.fn.at l.fn.r ≡ given_by_runs (pieces_of (drop l.start-index l.fn.self.runs.now)) l.fn.at l.fn.r
