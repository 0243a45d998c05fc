-- A thread's own end of a phase.
use Rattle.std.specs.Prelude.{◌≡◌, ℕ, ◌*◌, ◌<◌, ◌≤◌, min, Bool, List, ◌++◌, length, take, drop, slice_get, Some}
use Rattle.std.specs.List.{flat_map}
use Rattle.std.specs.Arc.{arc_value}
use Rattle.std.specs.declared.cmp.PartialEq as PartialEq
use Rattle.record_core.specs.Bytes.{Encoding}
use Rattle.record_core.specs.declared.record.Record as Record
use Rattle.book_core.specs.Lists.{Phase, IsRestOfPiece, seat_list, seat_pieces}
use Rattle.phase_core.specs.declared.grower.Grower.{Grower}

module _ {R : Type 0} {record_of : Record.Ghosts R} {eq_of : PartialEq.Ghosts R} where
  -- the phase that it is of
  abbrev pub phase_of : Grower R record_of eq_of → Phase R
  phase_of grower = arc_value grower.live

  -- the list as it knows it
  abbrev pub list_of : Grower R record_of eq_of → List R
  list_of grower = seat_list (phase_of grower) grower.seat

  -- and the pieces in which it stands
  abbrev pub pieces_of : Grower R record_of eq_of → List (List R)
  pieces_of grower = seat_pieces (phase_of grower) grower.seat

-- the bytes of so many records from that position on stand in front of the output, and after them what stood there
pub record Copies {R : Type 0} (form : Encoding R) (list : List R) (from : ℕ) (old new : List ℕ) (count : ℕ) : Type 0 where
  pub inside : (count * form.width ≤ length old) × (count ≤ length (drop from list))
  pub is : new ≡ flat_map form.bytes_of (take count (drop from list)) ++ drop (count * form.width) old

-- as many as stand from that position on in its piece, and as there is room for
pub record IsOfOnePiece {R : Type 0} (pieces : List (List R)) (from room count : ℕ) : Type 0 where
  pub rest : List R
  pub stands : IsRestOfPiece pieces from rest
  pub as_many : count ≡ min (length rest) room

-- the records that equal x
abbrev pub equals : {R : Type 0} → (R → R → Bool) → R → R → Bool
equals eq x r = eq r x

-- It stands there, and nowhere from that position on before; where it stands nowhere behind, it is the list's length.
pub record IsFoundFrom {R : Type 0} (list : List R) (x : R) (from place : ℕ) : Type 0 where
  pub within : place ≤ length list
  pub here : place < length list → (from ≤ place) × (slice_get list place ≡ Some x)
  pub first : (i : ℕ) → from ≤ i → i < place → slice_get list i ≡ Some x → ⊥
