use Rattle.std.proofs.Common.{◌≡◌, ◌++◌, take}
use Rattle.book_core.specs.Lists.{records_of}
use Rattle.book_core.specs.Snapshots.{full_of}
use Rattle.book_core.proofs.snapshot.slices.Slices.push_blocks.Given as goal

abbrev pub invariant-loop-block : goal.invariant-loop-block
invariant-loop-block g l = (l.self.pieces ≡ l.fn.self.pieces ++ full_of (take l.block-index (records_of l.blocks)))
    × (l.self.slice_room ≡ l.fn.self.slice_room) × (l.self.start_room ≡ l.fn.self.start_room)
