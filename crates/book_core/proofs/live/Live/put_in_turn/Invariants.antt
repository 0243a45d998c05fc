use Rattle.std.proofs.Common.{◌≡◌}
use Rattle.book_core.specs.Lists.{IsSeatOf}
use Rattle.book_core.specs.Growing.{SeatLearns}
use Rattle.book_core.proofs.live.Live.put_in_turn.Given as goal

abbrev pub invariant-loop : goal.invariant-loop
invariant-loop g l = IsSeatOf l.self l.seat × SeatLearns l.fn.seat l.seat × (l.kept ≡ l.fn.block)
