-- The steps and answers of the code as those of the machine.
use Rattle.std.specs.Prelude.{ℕ, List}
use Rattle.disk_core.specs.State.{State}
use Rattle.segment_core.specs.declared.format.Format.TheVariants.{One, Two}
use Rattle.drive_core.specs.declared.step.Step as code
use Rattle.drive_core.specs.declared.step.Step.TheVariants as asks
use Rattle.drive_core.specs.declared.step.Answer as told
use Rattle.drive_core.specs.declared.step.Answer.TheVariants as answers
use Rattle.drive_core.specs.World.{DiskOf}
use Rattle.drive_core.specs.Given.{pieces_of}
use Rattle.drive_core.specs.Step as machine

abbrev pub disk_of : List State → ℕ → DiskOf
disk_of states faults = record { states = states; faults = faults }

abbrev pub step_of : {R : Type 0} → code.Step R → machine.Step R
step_of asks.Create = machine.Create One
step_of asks.CreateTwo = machine.Create Two
step_of asks.Open = machine.Open
step_of (asks.Share room seats) = machine.Share room seats
step_of (asks.Put seat records) = machine.Put seat records.items
step_of (asks.Look seat) = machine.Look seat
step_of (asks.View seat) = machine.View seat
step_of (asks.Settled seat) = machine.Settled seat
step_of asks.Take = machine.Take
step_of asks.Raise = machine.Raise
step_of asks.Close = machine.Close
step_of asks.Gather = machine.Gather
step_of (asks.Change start records) = machine.Change start records.items
step_of (asks.Changes pieces) = machine.Changes (pieces_of pieces.items)
step_of (asks.Resize n r) = machine.Resize n r
step_of asks.Clear = machine.Clear
step_of asks.List = machine.Listing
step_of asks.Fold = machine.Fold
step_of asks.Log = machine.Log
step_of asks.Home = machine.Home

abbrev pub answer_of : {R : Type 0} → told.Answer R → machine.Answer R
answer_of answers.Fine = machine.Fine
answer_of (answers.Size n) = machine.Size n
answer_of (answers.Growth receipt) = machine.Grown receipt
answer_of (answers.Listed records) = machine.Listed records.items
answer_of (answers.Settled n state) = machine.Told n state
answer_of (answers.Took n) = machine.Took n
answer_of (answers.Raised n) = machine.Raised n
answer_of (answers.Begun begun) = machine.Begun begun
answer_of (answers.Ticked ticked) = machine.Ticked ticked
answer_of (answers.Refused fault) = machine.Refused fault
