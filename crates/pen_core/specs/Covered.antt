-- Positions that runs cover, and runs that stand apart.
use Rattle.std.specs.Prelude.{◌≡◌, ℕ, ◌+◌, ◌≤◌, ◌<◌, Bool, ◌&&◌, List, [], ◌∷◌, nat_le, nat_lt}
use Rattle.std.specs.List.{list_any}

-- the run has position i
abbrev pub has : ℕ → ℕ × ℕ → Bool
has i run = nat_le run.0 i && nat_lt i (run.0 + run.1)

-- one of the runs has position i
abbrev pub covers : ℕ → List (ℕ × ℕ) → Bool
covers i runs = list_any (has i) runs

-- each run has a position, and begins behind a gap: at or behind this place, then behind the end of the one before
abbrev pub StandApart : ℕ → List (ℕ × ℕ) → Type 0
StandApart from [] = Unit {0}
StandApart from (run ∷ runs) = (from ≤ run.0) × (0 < run.1) × StandApart (run.0 + run.1 + 1) runs

-- the same positions in as few runs as can be, in ascending order
pub record IsCover (runs cover : List (ℕ × ℕ)) : Type 0 where
  pub same : (i : ℕ) → covers i cover ≡ covers i runs
  pub apart : StandApart 0 cover
