-- Which bytes a crash may have left at some moment. A disk's states stand newest first, one for each moment.
use Rattle.std.specs.Prelude.{ℕ, ◌≡◌, ◌≤◌, suc, ◌-◌, ◌⊎◌, List, [], ◌∷◌, ◌++◌, length, drop}
use Rattle.disk_core.specs.State.{State, now, IsImage}

-- the moment of the newest state
abbrev pub clock : List State → ℕ
clock states = length states

-- a crash at some moment from t on might have left these bytes
abbrev pub LeftSince : List State → ℕ → List ℕ → Type 0
LeftSince [] t image = ⊥
LeftSince (s ∷ earlier) t image = (t ≤ suc (clock earlier)) × (IsImage s image ⊎ LeftSince earlier t image)

-- The old states stand as they stood, with newer ones in front.
abbrev pub Follows : List State → List State → Type 0
Follows old new = (fresh : List State) × (new ≡ fresh ++ old)

-- the states as they stood at an earlier moment
abbrev pub states_at : ℕ → List State → List State
states_at t states = drop (clock states - t) states

-- a crash at some moment from t on, and no later than at m, might have left these bytes
abbrev pub LeftBetween : List State → ℕ → ℕ → List ℕ → Type 0
LeftBetween states t m image = LeftSince (states_at m states) t image

-- From the moment of the old states on, up to that of the new ones, a crash at any moment leaves only bytes with P.
-- Two calls in a row are joined by `LeavesOnly-join`.
pub record LeavesOnly (old new : List State) (P : List ℕ → Type 0) : Type 0 where
  pub past : Follows old new
  pub each : (image : List ℕ) → LeftSince new (clock old) image → P image
  -- a crash now, also where the list is empty
  pub newest : (image : List ℕ) → IsImage (now new) image → P image
