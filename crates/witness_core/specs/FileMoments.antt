-- What a file holds at each moment while calls of its disk are made. Moments are finer than calls.
use Rattle.std.specs.Prelude.{◌≡◌, ℕ, zero, suc, ◌-◌, ◌<◌, ◌≤◌, List, [], ◌∷◌, slice_index}
use Rattle.disk_core.specs.State.{State}
use Rattle.disk_core.specs.Calls.{bytes_of}
use Rattle.disk_core.specs.Moments.{clock}

-- the same byte at each place; past the end a byte is 0
abbrev pub SameBytes : List ℕ → List ℕ → Type 0
SameBytes one other = (j : ℕ) → slice_index one j ≡ slice_index other j

-- A call goes on behind the one moment, up to the other. Each byte turns once, from what it was to what it is behind the
-- call, and no two need turn at the same moment. A byte that the call leaves alone is the same before and behind.
pub record TurnsBytes (held : ℕ → List ℕ) (from to : ℕ) (old new : List ℕ) : Type 0 where
  pub turn : ℕ → ℕ
  pub in_time : (j : ℕ) → turn j ≤ to
  pub before : (t j : ℕ) → from < t → t ≤ to → t < turn j → slice_index (held t) j ≡ slice_index old j
  pub behind : (t j : ℕ) → from < t → t ≤ to → turn j ≤ t → slice_index (held t) j ≡ slice_index new j

-- The disk has been through these states, of which the newest stands first; its last n calls had ended at this moment, and
-- before them the file held the same all along.
abbrev pub HeldThrough : ℕ → List State → (ℕ → List ℕ) → ℕ → Type 0
HeldThrough zero states held to = (t : ℕ) → t ≤ to → SameBytes (held t) (bytes_of states)
HeldThrough (suc n) [] held to = ⊥
HeldThrough (suc n) (s ∷ earlier) held to = (from : ℕ) × (from < to) × HeldThrough n earlier held from × TurnsBytes held from to (bytes_of earlier) s.seen

-- The file of this disk holds that at each moment, from when the clock was since; and no call comes behind the last one.
pub record IsHeldSince (since : ℕ) (states : List State) (held : ℕ → List ℕ) : Type 0 where
  pub end : ℕ
  pub through : HeldThrough (clock states - since) states held end
  pub from_then : (t : ℕ) → end ≤ t → SameBytes (held t) (bytes_of states)
