-- What is left of the pieces of a list.
use Rattle.std.specs.Prelude.{◌≡◌, ℕ, List, [], ◌∷◌, drop}
use Rattle.std.specs.declared.cmp.PartialEq as PartialEq
use Rattle.record_core.specs.declared.record.Record as Record
use Rattle.book_core.specs.declared.reading.Pieces.{Pieces}
use Rattle.book_core.specs.Lists.{seat_pieces}

-- these pieces, the first one from that place on
abbrev pub from_place : {R : Type 0} → ℕ → List (List R) → List (List R)
from_place place [] = []
from_place place (piece ∷ pieces) = drop place piece ∷ pieces

module _ {R : Type 0} {record_of : Record.Ghosts R} {eq_of : PartialEq.Ghosts R} where
  -- the pieces that are left, in order
  abbrev pub pieces_left : Pieces R record_of eq_of → List (List R)
  pieces_left pieces = from_place pieces.place (drop pieces.next (seat_pieces pieces.live.now pieces.seat.now))

-- they are left of those pieces from one of them on, and from a place in it
pub record IsLeftOf {R : Type 0} (pieces left : List (List R)) : Type 0 where
  pub number : ℕ
  pub place : ℕ
  pub are : left ≡ from_place place (drop number pieces)
