use Rattle.std.proofs.Common.{◌≡◌, ◌+◌, ◌≤◌, length}
use Rattle.std.specs.List.{count_by}
use Rattle.book_core.specs.Lists.{joined_pieces, seat_list}
use Rattle.book_core.specs.Pieces.{pieces_left}
use Rattle.phase_core.specs.Grower.{equals}
use Rattle.phase_core.proofs.searching.count_equal.Given as goal

-- those before what is left are counted
abbrev pub invariant-loop-piece : goal.invariant-loop-piece
invariant-loop-piece g l =
    let p = equals g.R.PartialEq.eq l.sought in
    let list = seat_list l.live l.fn.seat in record {
      name : l.left.seat.ghost_name ≡ l.initial.left.seat.ghost_name;
      same : l.left.seat.now ≡ l.initial.left.seat.now;
      few : length (joined_pieces (pieces_left l.left)) ≤ length list;
      counted : l.count + count_by p (joined_pieces (pieces_left l.left)) ≡ count_by p list;
    }

abbrev pub decreases-loop-piece : goal.decreases-loop-piece
decreases-loop-piece g l = length (pieces_left l.left)
