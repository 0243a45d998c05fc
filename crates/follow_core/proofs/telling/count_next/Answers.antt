use Rattle.follow_core.proofs.Fronts.{counted_in_piece}
use Rattle.follow_core.proofs.telling.count_next.Goals as goal

pub returns-clause-counted : goal.returns-clause-counted
returns-clause-counted c = λ held frames from to file read first.
    let found = c.in-Some.ensures.lookup in
    counted_in_piece c.args.shape held frames file from to c.args.start c.args.piece.now read c.args.summary c.requires.behind first c.in-Some.front.now found.0.2 found.0.1 c.if-front-ne-OPEN_GATE.false
    c.with_front.result c.with_front.ensures.counted
