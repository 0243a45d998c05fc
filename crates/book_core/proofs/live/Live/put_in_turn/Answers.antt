use Rattle.std.proofs.Common.{length, ◌∙◌}
use Rattle.book_core.proofs.Steps.{learns-trans, book_from_look}
use Rattle.book_core.proofs.live.Live.put_in_turn.Goals as goal

pub loop-init : goal.loop-init
loop-init g c = (c.put_at_once.ensures.of, c.in-Err.ensures.list.1, c.in-Err.ensures.list.0)

pub returns-in-Err-catch_up-clause-list : goal.returns-in-Err-catch_up-clause-list
returns-in-Err-catch_up-clause-list g c =
    (c.loop.invariant.2, learns-trans c.args.seat.now c.loop.seat c.catch_up.new.seat c.loop.invariant.1 c.catch_up.ensures.learns)

pub returns-in-Err-catch_up-clause-fault : goal.returns-in-Err-catch_up-clause-fault
returns-in-Err-catch_up-clause-fault g c = book_from_look c.args.self.now c.catch_up.new.seat (length c.args.block) c.in-Err-catch_up.fault c.in-Err-catch_up.ensures.fault

pub loop-preserved : goal.loop-preserved
loop-preserved g c =
    let refused = c.in-Err-default-Strayed.ensures.list in
    let caught = learns-trans c.args.seat.now c.loop.seat c.catch_up.new.seat c.loop.invariant.1 c.catch_up.ensures.learns in
    (c.put.ensures.of, learns-trans c.args.seat.now c.catch_up.new.seat c.put.new.seat caught refused.1, refused.0 ∙ c.loop.invariant.2)

pub returns-in-Err-catch_up-clause-of : goal.returns-in-Err-catch_up-clause-of
returns-in-Err-catch_up-clause-of g c = c.catch_up.ensures.of

pub returns-in_default-put-clause-of : goal.returns-in_default-put-clause-of
returns-in_default-put-clause-of g c = c.put.ensures.of
