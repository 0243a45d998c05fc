use Rattle.std.proofs.Common.{◌≡◌, ℕ, ◌+◌, ◌∷◌, ◌++◌, [], length, vec_len, refl, sym, subst, ◌∙◌, arith}
use Rattle.std.proofs.lemmas.List.{nil_from_length}
use Rattle.serve_core.specs.Clients.{AreBegun, IsClientBegun}
use Rattle.serve_core.proofs.Clients.{AreSeatsOf, begun_last, begun_rest, home_more, home_none}
use Rattle.serve_core.proofs.homing.come_home.Goals as goal

pub loop-preserved : goal.loop-preserved
loop-preserved g c =
    let i = c.loop.invariant in
    let form = g.R.Record.form in
    let remaining = g.I.Read.remaining in
    let contents = g.W.Write.contents in
    let live = c.args._live.now in
    let pipes = c.args._pipes.now.value.items in
    let rest = c.take_last.new.self.items in
    let last = c.take_last.result in
    let all : AreBegun live pipes (rest ++ last ∷ []) = subst (AreBegun live pipes) c.take_last.ensures.items i.begun in
    let here = begun_last live pipes rest last all in
    let push = c.push_reserved.ensures in
    let left = i.left in
    let count = i.count in
    let room = i.room in
    let len = c.take_last.ensures.len in
    let many = c.requires.begun.1 in
    let number = here.1 in
    let ok = c.take_last.new.self.ok in
    let ok' = c.args._pipes.now.value.ok in
    let ok'' = c.loop.seats.ok in
    let is : IsClientBegun live pipes (length c.loop.seats.items) last = subst (λ (k : ℕ). IsClientBegun live pipes k last) (omega arith) here.2 in
    record {
      left = omega arith;
      begun = begun_rest live pipes rest last all;
      count = let l = push.len in omega arith;
      room = let p = push.capacity in omega arith;
      home = subst (AreSeatsOf form live remaining contents pipes) (sym push.items)
          (home_more form live remaining contents pipes c.loop.seats.items c.join-seat.result.seat (length c.loop.seats.items) last
          (remaining c.join-seat.result.pipes.requests) (contents c.join-seat.result.pipes.answers) c.join-seat.result.end
          i.home refl is c.join-seat.ensures.of c.join-seat.ensures.finished);
    }

pub loop-init : goal.loop-init
loop-init g c =
    let room = c.requires.room in
    let none = room.0 in
    let ok = c.args.room.ok in
    record {
      left = omega arith;
      begun = c.requires.begun.0;
      count = omega arith;
      room = room.1;
      home = subst (AreSeatsOf g.R.Record.form c.args._live.now g.I.Read.remaining g.W.Write.contents c.args._pipes.now.value.items)
          (sym (nil_from_length c.args.room.items (omega arith)))
          (home_none g.R.Record.form c.args._live.now g.I.Read.remaining g.W.Write.contents c.args._pipes.now.value.items);
    }

pub returns : goal.returns
returns g c =
    let i = c.loop.invariant in
    let count = i.count in
    let many = c.requires.begun.1 in
    let ok = c.loop.seats.ok in
    let ok' = c.args._pipes.now.value.ok in
    record {
      as_many = omega (arith, c.loop-test.false, c.loop.auto.counter-end);
      each = i.home;
    }
