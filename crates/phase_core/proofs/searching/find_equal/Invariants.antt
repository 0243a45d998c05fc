use Rattle.std.proofs.Common.{◌≡◌, ℕ, ◌≤◌, ◌<◌, length, drop, Some}
use Rattle.std.specs.Prelude.{slice_get}
use Rattle.book_core.specs.Lists.{joined_pieces, seat_list}
use Rattle.book_core.specs.Pieces.{pieces_left}
use Rattle.phase_core.proofs.searching.find_equal.Given as goal

-- what is left stands from there on, and none of those before is it
abbrev pub invariant-loop-piece : goal.invariant-loop-piece
invariant-loop-piece g l =
    let list = seat_list l.live l.fn.seat in record {
      name : l.left.seat.ghost_name ≡ l.initial.left.seat.ghost_name;
      same : l.left.seat.now ≡ l.initial.left.seat.now;
      left : joined_pieces (pieces_left l.left) ≡ drop l.at list;
      behind : l.from ≤ l.at;
      none : (k : ℕ) → l.from ≤ k → k < l.at → slice_get list k ≡ Some l.sought → ⊥;
    }

abbrev pub decreases-loop-piece : goal.decreases-loop-piece
decreases-loop-piece g l = length (pieces_left l.left)
