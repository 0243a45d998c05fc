-- Lines that are gathered into growths.
use Rattle.std.specs.Prelude.{◌≡◌, ℕ, ◌<◌, List, [], ◌∷◌, ◌++◌, length, map}
use Rattle.std.specs.List.{AllByRecursion}
use Rattle.segment_core.specs.Written.{joined}

-- the growth of the lines that are left, if there are some
abbrev pub last_growth : {R : Type 0} → List (List R) → List (List R)
last_growth [] = []
last_growth (line ∷ lines) = joined (line ∷ lines) ∷ []

-- Each growth has the records of so many lines; those behind them, which are fewer, are a last one.
pub record AreLineBlocks {R : Type 0} (block : ℕ) (lines growths : List (List R)) : Type 0 where
  pub whole : List (List (List R))
  pub left : List (List R)
  pub each : AllByRecursion (λ of. length of ≡ block) whole
  pub fewer : length left < block
  pub lines_are : lines ≡ joined whole ++ left
  pub growths_are : growths ≡ map joined whole ++ last_growth left
