-- What changes a vector, and the list that is left.
use Rattle.std.specs.Prelude.{◌≡◌, ℕ, ◌+◌, ◌*◌, ◌≤◌, ◌<◌, true, List, [], ◌∷◌, ◌++◌, length, take, drop}
use Rattle.std.specs.List.{AllByRecursion}
use Rattle.segment_core.specs.declared.format.Shape.{Shape}
use Rattle.segment_core.specs.Shape.{limit_of}
use Rattle.segment_core.specs.Frame.{Run, runs_len, records_of_runs}
use Rattle.segment_core.specs.Layout.{HasRuns}
use Rattle.segment_core.specs.Tally.{are_ascending, are_inside}
use Rattle.record_core.specs.Limits.{record_limit}

-- Grow appends, Shrink keeps the first records, Change replaces the records of runs by others in their order.
pub data Command (R : Type 0) : Type 0 where
  Grow : List R → Command R
  Shrink : ℕ → Command R
  Change : List Run → List R → Command R

-- the runs replaced, one after the other
abbrev pub replaced : {R : Type 0} → List R → List Run → List R → List R
replaced records [] new = records
replaced records (run ∷ runs) new = replaced (take run.start records ++ take run.count new ++ drop (run.start + run.count) records) runs (drop run.count new)

abbrev pub after_command : {R : Type 0} → List R → Command R → List R
after_command records (Grow new) = records ++ new
after_command records (Shrink n) = take n records
after_command records (Change runs new) = replaced records runs new

-- the list that the commands make of this one, in order
abbrev pub content : {R : Type 0} → List R → List (Command R) → List R
content records [] = records
content records (command ∷ commands) = content (after_command records command) commands

-- runs that a change may replace in a list of this length, by as many records as are given
pub record AreRuns (shape : Shape) (size : ℕ) (runs : List Run) (given : ℕ) : Type 0 where
  pub some : HasRuns shape.format runs
  pub each : AllByRecursion (λ run. 0 < run.count) runs
  pub ordered : are_ascending 0 runs ≡ true
  pub inside : are_inside size runs ≡ true
  pub filled : given ≡ records_of_runs runs

-- a command that may come when the vector is this list, in a file of this shape
abbrev pub IsLegalCommand : {R : Type 0} → Shape → List R → Command R → Type 0
IsLegalCommand shape records (Grow new) = (0 < length new) × (8 + length new * shape.width ≤ limit_of shape.format) × (length records + length new ≤ record_limit)
IsLegalCommand shape records (Shrink n) = n ≤ length records
IsLegalCommand shape records (Change runs new) = AreRuns shape (length records) runs (length new) × (runs_len shape.format (length runs) + length new * shape.width ≤ limit_of shape.format)

abbrev pub AreLegalCommands : {R : Type 0} → Shape → List R → List (Command R) → Type 0
AreLegalCommands shape records [] = Unit {0}
AreLegalCommands shape records (command ∷ commands) = IsLegalCommand shape records command × AreLegalCommands shape (after_command records command) commands
