-- A fold: what it writes, and what its home writes make of the file once all of them are done.
use Rattle.std.specs.Prelude.{◌≡◌, ℕ, ◌+◌, ◌<◌, ◌≤◌, List, [], ◌∷◌, length, map, is_some}
use Rattle.std.specs.List.{AllByRecursion}
use Rattle.disk_core.specs.State.{State, overlay}
use Rattle.segment_core.specs.declared.format.Shape.{Shape}
use Rattle.segment_core.specs.declared.found.Home.{Home}
use Rattle.segment_core.specs.Frame.{Frame}
use Rattle.segment_core.specs.Folding.{HomesHold}
use Rattle.segment_core.specs.Raw.{raw}
use Rattle.segment_core.specs.Tally.{tally_of}
use Rattle.segment_core.specs.Vector.{home_of, change_of}
use Rattle.pen_core.specs.Covered.{covers}
use Rattle.pen_core.specs.Held.{IsBeingFolded, gate_of}
use Rattle.pen_core.specs.HomeRuns.{home_span, AreGreatestRuns}
use Rattle.pen_core.specs.PenOf.{HomeWrite}
use Rattle.pen_core.specs.Values.{writes_for}

-- writes laid over bytes, one after the other
abbrev pub laid : List HomeWrite → List ℕ → List ℕ
laid [] bytes = bytes
laid (write ∷ writes) bytes = laid writes (overlay bytes write.place write.bytes)

-- a write into home bytes that are being folded
pub record IsHomeWrite (shape : Shape) (count : ℕ) (frames : List Frame) (write : HomeWrite) : Type 0 where
  pub some : 0 < length write.bytes
  pub below_gate : write.place + length write.bytes ≤ gate_of shape frames
  pub folded : (j : ℕ) → write.place ≤ j → j < write.place + length write.bytes → IsBeingFolded shape count frames j

-- Once the writes that are left are done, each position that the fold covers, and no later change, has its record in
-- its home bytes.
pub record IsFolding (shape : Shape) (count : ℕ) (frames : List Frame) (vector : List (List ℕ)) (left : List HomeWrite) (s : State) : Type 0 where
  pub homes_hold : HomesHold shape.format (raw shape.width) (laid left s.seen) frames count vector
  pub into_homes : AllByRecursion (IsHomeWrite shape count frames) left

-- What a fold of all live changes writes: the records of just the positions that these cover, into their home bytes, by
-- one write for each greatest run.
pub record IsWholeFold (shape : Shape) (frames : List Frame) (vector : List (List ℕ)) (left : List HomeWrite) : Type 0 where
  pub runs : List Home
  pub writes_are : left ≡ writes_for (raw shape.width) vector runs
  pub covered : (i : ℕ) → covers i (map home_span runs) ≡ is_some (change_of shape (tally_of frames).folded frames i)
  pub runs_are : AreGreatestRuns shape.width (home_of shape frames) (tally_of frames).size runs
