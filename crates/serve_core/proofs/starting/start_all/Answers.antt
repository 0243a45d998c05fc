use Rattle.std.proofs.Common.{◌≡◌, ◌+◌, length, sym, ap, subst, ◌∙◌, arith}
use Rattle.std.proofs.lemmas.List.{length_push}
use Rattle.book_core.specs.Beginning.{IsNewSeat}
use Rattle.serve_core.specs.Clients.{AreBegun}
use Rattle.serve_core.proofs.Clients.{begun_is, begun_more, front_rest}
use Rattle.serve_core.proofs.starting.start_all.Goals as goal

pub loop-preserved : goal.loop-preserved
loop-preserved g c =
    let i = c.loop.invariant in
    let live = c.args.live.now in
    let pipes = c.args.pipes.items in
    let given = c.loop.pipes.items in
    let rest = c.take_client-client.new.pipes.items in
    let seats = c.take_client-client.new.seats in
    let client = c.take_client-client.result in
    let e = c.take_client-client.ensures in
    let away = c.in-Some.started in
    let is = c.in-Some.ensures in
    let push = c.push_reserved.ensures in
    let left = i.left in
    let as_many = i.as_many in
    let count = i.count in
    let room = i.room in
    let fewer = e.seats in
    let parts = e.pipes in
    let ok = c.loop.pipes.ok in
    let ok' = c.take_client-client.new.pipes.ok in
    let ok'' = seats.ok in
    let ok₃ = c.loop.away.ok in
    let ok₄ = c.args.pipes.ok in
    let same : length given ≡ length rest + 1 = ap length parts ∙ length_push rest client.pipes in
    let n = length seats.items in
    let begun = begun_is live pipes given rest n away client.pipes parts i.front (omega arith) (is.0 ∙ e.live) is.2
    (subst (IsNewSeat live.directory live.mark n) (sym is.1) e.new) in
    record {
      left = omega arith;
      as_many = omega arith;
      new = e.rest;
      front = front_rest live pipes given rest client.pipes parts i.front;
      count = let l = push.len in omega arith;
      begun = subst (AreBegun live pipes) (sym push.items) (begun_more live pipes c.loop.away.items away n i.begun (omega arith) begun);
      room = ((let r = room.0 in let p = push.capacity in omega arith), (let r = room.1 in let p = fewer.1 in omega arith));
    }
