use Rattle.std.proofs.Common.{◌≡◌, ℕ, ◌+◌, ◌<◌, List, [], ◌∷◌, ◌++◌, length, vec_len, Some, refl, sym, ap, subst, ◌∙◌, rules, arith}
use Rattle.book_core.proofs.Owns.{seats-pop}
use Rattle.crew_core.specs.Crewing.{SentOf, AreSent}
use Rattle.crew_core.proofs.Growers.{ready}
use Rattle.crew_core.proofs.Comes.{HasCome_same}
use Rattle.crew_core.proofs.Homes.{sent_more}
use Rattle.std.proofs.lemmas.Grind.{common_steps}
use Rattle.crew_core.proofs.crewing.fn.grow_all.scope.Goals.{in-Ok, in-Err}
use Rattle.crew_core.proofs.crewing.fn.grow_all.scope.Goals as goal

pub spawn_with-started-requires-clause-runs : goal.spawn_with-started-requires-clause-runs
spawn_with-started-requires-clause-runs g c κs within =
    let live = c.captures.live.now in
    let source = c.captures.source.now in
    let i = c.loop.invariant in
    let rest = c.take_last-seat.new.self.items in
    let seat = c.take_last-seat.result in
    let new = (seats-pop live.directory live.mark c.loop.seats.items rest (Some seat) i.new c.take_last-seat.ensures.items).1 in
    let growers : vec_len c.captures.seats ≡ g.S.Source.growers_of source = c.requires.1 in
    let left = i.left in
    let len = c.take_last-seat.ensures.len in
    let ok = c.take_last-seat.new.self.ok in
    let lt : length rest < g.S.Source.growers_of source = omega arith in
    let made = c.new-grower.ensures in (
      ready g.R.Record.form.width live (g.S.Source.count_of source) (g.S.Source.block_of source) (length rest) c.id-id.result
          (g.S.Source.growers_of source) seat c.new-grower.result.seat c.new-grower.result.receipts.items c.new-grower.result.fault
          new lt c.id-id.ensures made.0 made.1 made.2,
      search rules,
    )

pub spawn_with-grower-requires-after_bounds : goal.spawn_with-grower-requires-after_bounds
spawn_with-grower-requires-after_bounds g c κs within =
    let live = c.captures.live.now in
    let source = c.captures.source.now in
    let i = c.loop.invariant in
    let rest = c.take_last-seat.new.self.items in
    let seat = c.take_last-seat.result in
    let new = (seats-pop live.directory live.mark c.loop.seats.items rest (Some seat) i.new c.take_last-seat.ensures.items).1 in
    let growers : vec_len c.captures.seats ≡ g.S.Source.growers_of source = c.requires.1 in
    let left = i.left in
    let len = c.take_last-seat.ensures.len in
    let ok = c.take_last-seat.new.self.ok in
    let lt : length rest < g.S.Source.growers_of source = omega arith in
    let made = c.new-grower.ensures in
    rw c.in-Err.ensures.err
    (ready g.R.Record.form.width live (g.S.Source.count_of source) (g.S.Source.block_of source) (length rest) c.id-id.result
    (g.S.Source.growers_of source) seat c.new-grower.result.seat c.new-grower.result.receipts.items c.new-grower.result.fault
    new lt c.id-id.ensures made.0 made.1 made.2)

pub loop-preserved : goal.loop-preserved
loop-preserved g c =
    let live = c.captures.live.now in
    let source = c.captures.source.now in
    let gate = c.captures.gate.now in
    let n = vec_len c.captures.seats in
    let i = c.loop.invariant in
    let rest = c.take_last-seat.new.self.items in
    let seat = c.take_last-seat.result in
    let pop = seats-pop live.directory live.mark c.loop.seats.items rest (Some seat) i.new c.take_last-seat.ensures.items in
    let left = i.left in
    let count = i.count in
    let room = i.room in
    let len = c.take_last-seat.ensures.len in
    let ok = c.take_last-seat.new.self.ok in
    let ok' = c.loop.sent.ok in
    let capacity = c.take_last-seat.ensures.capacity in
    let id : c.id-id.result ≡ length rest = c.id-id.ensures ∙ pop.1.id_is in
    let number : c.id-id.result + length c.loop.sent.items + 1 ≡ n = omega arith in
    let more : (s : SentOf _ _ _) → s ≡ record { live = live; source = source; gate = gate; grower = c.id-id.result } → AreSent live source gate n (c.loop.sent.items ++ s ∷ []) =
    λ s is. sent_more live source gate n c.loop.sent.items s i.sent (ap (λ (t : SentOf _ _ _). t.live) is) (ap (λ (t : SentOf _ _ _). t.source) is)
    (ap (λ (t : SentOf _ _ _). t.gate) is) (let same = ap (λ (t : SentOf _ _ _). t.grower) is in omega arith) in
    elim c.match-started.branch [
      | in-Ok w ↦ rw w.sent-is (record {
        left = omega arith;
        new = pop.0;
        count = let l = w.push_reserved.ensures.len in omega arith;
        sent = subst (AreSent live source gate n) (sym w.push_reserved.ensures.items) (more w.away.result w.away.ensures);
        room = ((let r = room.0 in let p = w.push_reserved.ensures.capacity in omega arith), (let r = room.1 in omega arith));
      })
      | in-Err w ↦ rw w.sent-is (record {
        left = omega arith;
        new = pop.0;
        count = let l = w.push_reserved-in-Err.ensures.len in omega arith;
        sent = subst (AreSent live source gate n) (sym w.push_reserved-in-Err.ensures.items) (more w.home.result w.home.ensures);
        room = ((let r = room.0 in let p = w.push_reserved-in-Err.ensures.capacity in omega arith), (let r = room.1 in omega arith));
      })
    ]

pub loop-init : goal.loop-init
loop-init g c = grind (arith, common_steps)

pub spawn_with-started-requires-clause-keeps : goal.spawn_with-started-requires-clause-keeps
spawn_with-started-requires-clause-keeps g c = λ κs within r come.
    HasCome_same g.S.Source.count_of g.S.Source.block_of g.G.Gate.may_stop g.G.Gate.has_let g.G.Gate.was_told c.of.ensures.0 c.of.ensures.1 c.of.ensures.2
    c.of.ensures.3 come

pub home-requires-after_bounds : goal.home-requires-after_bounds
home-requires-after_bounds g c κs within = rw c.in-Err.ensures.err at c.spawn_with-grower.ensures

pub come_home-requires-clause-sent : goal.come_home-requires-clause-sent
come_home-requires-clause-sent g c = λ κs within.
    let many : vec_len c.captures.seats ≡ vec_len c.loop.sent =
    omega (arith, c.loop.invariant.count, c.loop-test.false, c.loop.auto.counter-end, c.requires.2) in
    subst (λ (n : ℕ). AreSent c.captures.live.now c.captures.source.now c.captures.gate.now n c.loop.sent.items) many c.loop.invariant.sent
