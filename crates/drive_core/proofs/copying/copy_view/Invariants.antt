use Rattle.std.proofs.Common.{◌≡◌, take}
use Rattle.book_core.specs.Lists.{joined_pieces, seat_pieces}
use Rattle.drive_core.proofs.copying.copy_view.Given as goal

abbrev pub invariant-loop-number : goal.invariant-loop-number
invariant-loop-number g l = (l.seat ≡ l.fn.seat) × (l.records.items ≡ joined_pieces (take l.number (seat_pieces l.fn.live l.fn.seat)))
