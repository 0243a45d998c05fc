use Rattle.std.proofs.Common.{length, ◌≡◌, ◌+◌, ◌≤◌, take, drop}
use Rattle.book_core.specs.Lists.{joined_pieces, seat_list}
use Rattle.book_core.specs.Pieces.{pieces_left}
use Rattle.phase_core.specs.Telling.{AreTold, told_len}
use Rattle.phase_core.proofs.grower.tell.Given as goal

-- so many are told, up to that position, and what is left stands from there on
abbrev pub invariant-loop-count : goal.invariant-loop-count
invariant-loop-count g l =
    let list = seat_list l.live l.fn.seat in record {
      name : l.left.seat.ghost_name ≡ l.initial.left.seat.ghost_name;
      same : l.left.seat.now ≡ l.initial.left.seat.now;
      left : joined_pieces (pieces_left l.left) ≡ drop l.at list;
      inside : (l.count ≤ length l.fn.out) × (length l.out ≡ length l.fn.out);
      told : AreTold list l.from (take l.count l.out);
      up_to : l.at ≡ l.from + told_len (take l.count l.out);
      behind : drop l.count l.out ≡ drop l.count l.fn.out;
    }

abbrev pub decreases-loop-count : goal.decreases-loop-count
decreases-loop-count g l = length (pieces_left l.left)
