-- Growths one after another.
use Rattle.std.specs.Prelude.{◌≡◌, ℕ, ◌<◌, ◌⊎◌, List, length, take, sum_by, flat_map, slice_get, All, Some}
use Rattle.block_core.specs.Length.{IsBlockLength}
use Rattle.block_core.specs.Growth.{Growth}

-- how many records they have together
abbrev pub total : {R : Type 0} → List (Growth R) → ℕ
total entries = sum_by (λ e. length e.records) entries

-- their records in order
abbrev pub grown_records : {R : Type 0} → List (Growth R) → List R
grown_records entries = flat_map (λ e. e.records) entries

-- the growth behind these: its number is their count, and its start the sum of their lengths
pub record IsNextGrowth {R : Type 0} (entries : List (Growth R)) (e : Growth R) : Type 0 where
  pub number : e.number ≡ length entries
  pub start : e.start ≡ total entries

-- each is the growth behind those before it
abbrev pub IsChained : {R : Type 0} → List (Growth R) → Type 0
IsChained {R} entries = (g : ℕ) (e : Growth R) → slice_get entries g ≡ Some e → IsNextGrowth (take g entries) e

-- each has records, and few enough for one frame
abbrev pub AreBlocks : {R : Type 0} → ℕ → List (Growth R) → Type 0
AreBlocks width entries = All (λ e. IsBlockLength width (length e.records)) entries

-- the first list begins the second
abbrev pub IsPrefix : {X : Type 0} → List X → List X → Type 0
IsPrefix xs ys = take (length xs) ys ≡ xs

-- at each number that both have, the two lists have the same growth
abbrev pub Agree : {X : Type 0} → List X → List X → Type 0
Agree xs ys = (g : ℕ) → g < length xs → g < length ys → slice_get xs g ≡ slice_get ys g

-- what two lists give together where they agree: it is one of them, and both begin it
pub record IsLongerOf {X : Type 0} (mine theirs both : List X) : Type 0 where
  pub begins_mine : IsPrefix mine both
  pub begins_theirs : IsPrefix theirs both
  pub is_one : (both ≡ mine) ⊎ (both ≡ theirs)
