-- Where a position stands.
use Rattle.std.specs.Prelude.{◌≡◌, ℕ, ◌+◌, ◌<◌, ◌≤◌, List, length, take, drop, get_or, slice_get, Some}
use Rattle.block_core.specs.Growth.{Growth}
use Rattle.directory_core.specs.Chain.{total}

-- position i of the records joined is that place of growth g
pub record IsPlaceOf {R : Type 0} (entries : List (Growth R)) (i g place : ℕ) : Type 0 where
  pub growth : Growth R
  pub is : slice_get entries g ≡ Some growth
  pub inside : place < length growth.records
  pub at : total (take g entries) + place ≡ i

-- the records from position i to the end of the growth that has it
pub record IsRestAt {R : Type 0} (entries : List (Growth R)) (i : ℕ) (piece : List R) : Type 0 where
  pub number : ℕ
  pub place : ℕ
  pub found : IsPlaceOf entries i number place
  pub is : piece ≡ drop place found.growth.records

-- the records from position i on, as many as were lent, at least one
pub record IsPieceAt {R : Type 0} (records : List R) (i : ℕ) (piece : List R) : Type 0 where
  pub some : 0 < length piece
  pub is : piece ≡ take (length piece) (drop i records)

-- the last start at or before i stands at low or behind it, and before high
pub record IsBetween (starts : List ℕ) (i low high : ℕ) : Type 0 where
  pub some : low < high
  pub inside : high ≤ length starts
  pub from : get_or starts low 0 ≤ i
  pub until : high < length starts → i < get_or starts high 0
