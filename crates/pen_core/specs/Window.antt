-- Records that are read from where they stand.
use Rattle.std.specs.Prelude.{◌≡◌, ◌<◌, ℕ, ◌+◌, List, take, drop, slice_get, Option, Some, MatchOption}
use Rattle.record_core.specs.Cells.{cell}

-- What is held of the positions of a window: where a place is told of one, the bytes that stand there; else those of before.
abbrev pub AreLaidOver : ℕ → ℕ → ℕ → List ℕ → (ℕ → Option ℕ) → List ℕ → List ℕ → Type 0
AreLaidOver width from count bytes says old new =
    (i : ℕ) → i < count → MatchOption (says (from + i)) (cell width new i ≡ cell width old i) (λ place. cell width new i ≡ take width (drop place bytes))

-- the bytes are the records of a vector, from a position on
abbrev pub AreCellsFrom : ℕ → ℕ → ℕ → List (List ℕ) → List ℕ → Type 0
AreCellsFrom width from count cells out = (i : ℕ) → i < count → slice_get cells (from + i) ≡ Some (cell width out i)
