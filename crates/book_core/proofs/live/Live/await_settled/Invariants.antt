use Rattle.book_core.specs.Lists.{IsSeatOf}
use Rattle.book_core.specs.Growing.{SeatIsTold}
use Rattle.book_core.proofs.live.Live.await_settled.Given as goal

abbrev pub invariant-loop : goal.invariant-loop
invariant-loop g l = IsSeatOf l.self l.seat × SeatIsTold l.fn.seat l.seat l.count l.state
