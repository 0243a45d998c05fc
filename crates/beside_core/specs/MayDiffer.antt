-- Which bytes of a file may be others than those that were first written there: home bytes, once a change covers them.
use Rattle.std.specs.Prelude.{◌⊎◌, ℕ, ◌+◌, ◌-◌, ◌*◌, ◌≤◌, ◌<◌, List, [], ◌∷◌, length, sum, IsSome}
use Rattle.segment_core.specs.declared.format.Shape.{Shape}
use Rattle.segment_core.specs.Frame.{Run, Frame, Group, Change, Shrink, Fold, frame_text}
use Rattle.segment_core.specs.Vector.{place_in_runs}

-- some run covers position i
abbrev pub LiesInRuns : ℕ → List Run → Type 0
LiesInRuns i runs = IsSome (place_in_runs 1 i 0 runs)

-- a change among these frames covers position i, before a shrink cuts it off
abbrev pub WillChange : ℕ → List Frame → Type 0
WillChange i [] = ⊥
WillChange i (Group lengths bytes ∷ frames) = WillChange i frames
WillChange i (Change runs bytes ∷ frames) = LiesInRuns i runs ⊎ WillChange i frames
WillChange i (Shrink n ∷ frames) = (i < n) × WillChange i frames
WillChange i (Fold count ∷ frames) = WillChange i frames

-- the vector's length behind a frame
abbrev pub size_after : ℕ → Frame → ℕ
size_after size (Group lengths bytes) = size + sum lengths
size_after size (Change runs bytes) = size
size_after size (Shrink n) = n
size_after size (Fold count) = size

-- byte j of a frame is a home byte of a position that one of the later frames changes
abbrev pub MayDifferIn : Shape → ℕ → List Frame → Frame → ℕ → Type 0
MayDifferIn shape size later (Group lengths bytes) j =
    (i : ℕ) × (i < sum lengths) × (10 + length lengths * 4 + i * shape.width ≤ j) × (j < 10 + length lengths * 4 + i * shape.width + shape.width) × WillChange (size + i) later
MayDifferIn shape size later (Change runs bytes) j = ⊥
MayDifferIn shape size later (Shrink n) j = ⊥
MayDifferIn shape size later (Fold count) j = ⊥

-- byte j from the first frame's gate on is one, where the vector has this length before the frames
abbrev pub MayDiffer : Shape → ℕ → List Frame → ℕ → Type 0
MayDiffer shape size [] j = ⊥
MayDiffer shape size (frame ∷ later) j =
    MayDifferIn shape size later frame j
    ⊎ ((length (frame_text shape.format frame) ≤ j) × MayDiffer shape (size_after size frame) later (j - length (frame_text shape.format frame)))
