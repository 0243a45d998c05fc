-- What a host is told of where a list stands in memory.
use Rattle.std.specs.Prelude.{◌≡◌, ℕ, ◌+◌, ◌<◌, ◌≤◌, List, [], ◌∷◌, length, take, drop, sum_by}
use denote.RawPtr.{Ptr}
use Rattle.std.specs.Borrow.{Bor}
use Rattle.std.specs.Ptr.{as_ptr}
use Rattle.directory_core.specs.Finding.{IsPieceAt}
use Rattle.phase_core.specs.declared.piece.Piece.{Piece}

-- what is told of lent records: from which position on they stand in the list, the address of the first, and how many they are
pub record IsToldOf {R : Type 0} (start : ℕ) (lent : Bor (List R)) (told : Piece) : Type 0 where
  pub start_is : told.start ≡ start
  pub at_is : told.at ≡ as_ptr lent
  pub len_is : told.len ≡ length lent.now

-- these records are lent, and the first of them stands there
pub record StandAt {R : Type 0} (records : List R) (place : Ptr) : Type 0 where
  pub lent : Bor (List R)
  pub at_is : place ≡ as_ptr lent
  pub are : lent.now ≡ records

-- records that stand in the list from that position on are lent, and that is told of them
pub record TellsAt {R : Type 0} (list : List R) (start : ℕ) (told : Piece) : Type 0 where
  pub lent : Bor (List R)
  pub of : IsToldOf start lent told
  pub stand : IsPieceAt list start lent.now

-- each begins where the one before it ends, and the first one at that position
abbrev pub AreTold : {R : Type 0} → List R → ℕ → List Piece → Type 0
AreTold list from [] = Unit {0}
AreTold list from (told ∷ more) = TellsAt list from told × AreTold list (from + told.len) more

-- so many records they have
abbrev pub told_len : List Piece → ℕ
told_len pieces = sum_by (λ p. p.len) pieces

-- So many pieces stand in front of the output, from that position on, and behind them what stood there: as many as it has room
-- for, or all up to the end of the list.
pub record TellsFrom {R : Type 0} (list : List R) (from : ℕ) (old new : List Piece) (count : ℕ) : Type 0 where
  pub inside : (count ≤ length old) × (length new ≡ length old)
  pub told : AreTold list from (take count new)
  pub behind : drop count new ≡ drop count old
  pub all : count < length old → length list ≤ from + told_len (take count new)
