-- What a pen knows of the state of its disk, step by step of a commit. The count is that of a fold in hand, 0 where
-- there is none.
use Rattle.std.specs.Prelude.{◌≡◌, ◌≢◌, ℕ, ◌<◌, ◌≤◌, List, [], ◌∷◌, length, slice_index, true, false, ◌⊎◌}
use Rattle.disk_core.specs.State.{State, is_within, overlay}
use Rattle.segment_core.specs.declared.format.Shape.{Shape}
use Rattle.segment_core.specs.Frame.{Frame}
use Rattle.pen_core.specs.Held.{Opens, HoldsFrames, IsBeingFolded, gate_of}

-- what is pending below the gate of some frames is being folded, also under these
abbrev pub PendingIsFolded : Shape → ℕ → List Frame → List Frame → State → Type 0
PendingIsFolded shape count frames next s = (j : ℕ) → j < gate_of shape frames → is_within s.pending j ≡ true → IsBeingFolded shape count next j

-- what stands up to the gate
pub record IsFileOf (shape : Shape) (count : ℕ) (frames : List Frame) (vector : List (List ℕ)) (s : State) : Type 0 where
  pub holds : HoldsFrames shape frames vector s.seen
  pub gate_synced : gate_of shape frames < length s.synced
  pub pending_is_folded : PendingIsFolded shape count frames frames s

-- the gate is closed, whatever a crash leaves
pub record IsShut (gate : ℕ) (s : State) : Type 0 where
  pub closed : slice_index s.seen gate ≢ 1
  pub kept : is_within s.pending gate ≡ false

-- The job's frame is written behind the gate: with the gate open the file would be the next.
pub record IsWritten (shape : Shape) (count : ℕ) (frames next : List Frame) (after : List (List ℕ)) (s : State) : Type 0 where
  pub longer : gate_of shape frames < gate_of shape next
  pub holds : HoldsFrames shape next after (overlay s.seen (gate_of shape frames) (1 ∷ []))
  pub closed : slice_index s.seen (gate_of shape next) ≢ 1
  pub inside : gate_of shape next < length s.seen
  pub pending_is_folded : PendingIsFolded shape count frames next s

-- and it is on the disk
pub record IsOnDisk (shape : Shape) (frames next : List Frame) (s : State) : Type 0 where
  pub inside : gate_of shape next < length s.synced
  pub kept : (j : ℕ) → gate_of shape frames < j → j ≤ gate_of shape next → is_within s.pending j ≡ false

abbrev pub IsBeforeOrAfter : Shape → List Frame → List Frame → List (List ℕ) → List (List ℕ) → List ℕ → Type 0
IsBeforeOrAfter shape frames next before after image = Opens shape frames before image ⊎ Opens shape next after image
