-- Bytes that were read of a file that another process writes meanwhile.
use Rattle.std.specs.Prelude.{◌≡◌, ℕ, ◌+◌, ◌<◌, ◌≤◌, List, length, slice_index}

-- this byte stood at this place at some moment between the two
pub record WasThere (held : ℕ → List ℕ) (from to place byte : ℕ) : Type 0 where
  pub moment : ℕ
  pub since : from ≤ moment
  pub until : moment ≤ to
  pub inside : place < length (held moment)
  pub stood : byte ≡ slice_index (held moment) place

-- these bytes did, each at a moment of its own
abbrev pub WereThere : (ℕ → List ℕ) → ℕ → ℕ → ℕ → List ℕ → Type 0
WereThere held from to place bytes = (j : ℕ) → j < length bytes → WasThere held from to (place + j) (slice_index bytes j)

-- so they did, one after the other: none was read before one in front of it
pub record InTurn (held : ℕ → List ℕ) (from to place : ℕ) (bytes : List ℕ) : Type 0 where
  pub moments : ℕ → ℕ
  pub ascend : (i j : ℕ) → i ≤ j → moments i ≤ moments j
  pub since : (j : ℕ) → from ≤ moments j
  pub until : (j : ℕ) → moments j ≤ to
  pub inside : (j : ℕ) → j < length bytes → place + j < length (held (moments j))
  pub stood : (j : ℕ) → j < length bytes → slice_index bytes j ≡ slice_index (held (moments j)) (place + j)
