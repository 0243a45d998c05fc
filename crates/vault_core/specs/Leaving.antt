-- Whose growths a phase leaves.
use Rattle.std.specs.Prelude.{◌≡◌, ℕ, ◌<◌, ◌≤◌, List, length, take, slice_get, All, Some}
use Rattle.block_core.specs.Growth.{Growth}
use Rattle.book_core.specs.Lists.{Seated, own_of}

-- The growths that the seat of that id made stand among these in their order, each once, and are those of the first ones that
-- bear the id.
pub record StandAmong {R : Type 0} (id : ℕ) (growths made : List (Growth R)) : Type 0 where
  pub first : ℕ
  pub inside : first ≤ length growths
  pub are : made ≡ own_of id (take first growths)

-- All growths that are known are those of the growers: each was made by one of them, and those that bear its id are just those
-- that it made.
pub record AreOfGrowers {R : Type 0} (n : ℕ) (seats : List (Seated R)) (growths : List (Growth R)) : Type 0 where
  pub by_growers : All (λ growth. growth.seat < n) growths
  pub made_once : (k : ℕ) (seat : Seated R) → k < n → slice_get seats k ≡ Some seat → own_of k growths ≡ seat.made
