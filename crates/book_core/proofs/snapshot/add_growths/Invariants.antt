use Rattle.std.proofs.Common.{◌≡◌, ◌+◌, ◌++◌, length, map, take, drop}
use Rattle.directory_core.specs.Chain.{total}
use Rattle.book_core.specs.Lists.{opening_of, joined_pieces}
use Rattle.book_core.proofs.snapshot.add_growths.Given as goal

abbrev pub invariant-loop-number : goal.invariant-loop-number
invariant-loop-number g l =
    (l.pass ≡ l.fn.pass)
    × (l.slices.pieces ≡ l.fn.slices.pieces ++ drop l.fn.from (take l.number (map (λ e. e.records) l.fn.pass.entries)))
    × (l.slices.slice_room ≡ l.fn.slices.slice_room)
    × (l.slices.start_room ≡ l.fn.slices.start_room)
    × (length (joined_pieces l.slices.pieces) ≡ length (opening_of l.fn.live) + total (take l.number l.fn.pass.entries))
