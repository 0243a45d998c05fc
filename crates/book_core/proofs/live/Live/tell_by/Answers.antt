use Rattle.std.proofs.Common.{refl, arith}
use Rattle.book_core.proofs.Puts.{learnt, learnt_kept, no_shorter}
use Rattle.book_core.proofs.live.Live.tell_by.Goals as goal

pub invariant_of-seat : goal.invariant_of-seat
invariant_of-seat g c =
    let s = c.seat.inside in
    let begins = c.meet.ensures.meets.begins_mine in
    let longer = no_shorter s.id s.checked s.pass c.meet.new.self s.mark begins in
    let inside = c.seat.invariant.2 in
    learnt_kept s.id s.checked s.pass c.meet.new.self s.mark s.serial begins c.seat.invariant s.checked refl (omega arith) (omega arith)

pub returns-clause-learns : goal.returns-clause-learns
returns-clause-learns g c =
    let s = c.seat.inside in
    rw (← c.seat.view_is) (learnt s.id s.checked s.pass c.meet.new.self s.mark c.meet.ensures.of c.meet.ensures.meets.begins_mine c.seat.invariant.2 s.checked refl)

pub returns-clause-meets : goal.returns-clause-meets
returns-clause-meets g c = rw (← c.seat.view_is) c.meet.ensures.meets
