-- The part of a file that is in memory, and what reading it leaves.
use Rattle.std.specs.Prelude.{◌≡◌, ◌≤◌, ℕ, ◌+◌, ◌-◌, min, List, take, drop}
use Rattle.disk_core.specs.State.{State, now, IsImage}
use Rattle.disk_core.specs.Moments.{LeavesOnly}
use Rattle.segment_core.specs.FrameHead.{front_len}
use Rattle.stat_core.specs.declared.window.ByteWindow.{ByteWindow}

-- the buffer begins with this part of the image
abbrev pub HoldsWindow : List ℕ → List ℕ → ByteWindow → Type 0
HoldsWindow image buffer window = take window.len buffer ≡ take window.len (drop window.start image)

-- the buffer's part has all that is looked at of a frame whose gate is at a place
pub record IsWithin (room at bytes : ℕ) (window : ByteWindow) : Type 0 where
  pub fits : window.len ≤ room
  pub starts : window.start ≤ at
  pub reaches : at + min front_len (bytes - at) ≤ window.start + window.len
  pub ends : window.start + window.len ≤ bytes

-- A read gives what it gave, and a crash leaves no more than it might have left.
pub record OnlyReads (old new : List State) : Type 0 where
  pub same : now new ≡ now old
  pub images : LeavesOnly old new (IsImage (now old))
