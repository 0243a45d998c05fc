use Rattle.book_core.proofs.Steps.{told-trans}
use Rattle.book_core.proofs.live.Live.await_settled.Goals.{in-None, in-Some+then-is_past, in-Some+else-is_past+then-is_past-2}
use Rattle.book_core.proofs.live.Live.await_settled.Goals as goal

pub loop-preserved : goal.loop-preserved
loop-preserved g c =
    let old = c.args.seat.now in
    let near = c.loop.seat in
    let mid = c.settled.new.seat in
    let new = c.settled-in-loop.new.seat in
    let told = told-trans old near mid c.loop.count c.settled.result.0 c.loop.state c.settled.result.1 c.loop.invariant.1 c.settled.ensures.told in
    (c.settled-in-loop.ensures.of, told-trans old mid new c.settled.result.0 c.settled-in-loop.result.0 c.settled.result.1 c.settled-in-loop.result.1 told c.settled-in-loop.ensures.told)

pub returns-clause-told : goal.returns-clause-told
returns-clause-told g c = elim c.match-next.branch [
  | in-None w ↦ rw (w.seat-is, w.count-is, w.state-is) c.loop.invariant.1
  | in-Some+then-is_past w ↦ rw (w.seat-is, w.count-is, w.state-is) c.loop.invariant.1
  | in-Some+else-is_past+then-is_past-2 w ↦
      rw (w.seat-is, w.count-is, w.state-is) (told-trans c.args.seat.now c.loop.seat w.settled.new.seat c.loop.count w.settled.result.0 c.loop.state w.settled.result.1
      c.loop.invariant.1 w.settled.ensures.told)
]

pub returns-clause-of : goal.returns-clause-of
returns-clause-of g c = elim c.match-next.branch [
  | in-None w ↦ rw w.seat-is c.loop.invariant.0
  | in-Some+then-is_past w ↦ rw w.seat-is c.loop.invariant.0
  | in-Some+else-is_past+then-is_past-2 w ↦ rw w.seat-is w.settled.ensures.of
]
