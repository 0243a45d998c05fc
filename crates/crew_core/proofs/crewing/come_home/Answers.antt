use Rattle.std.proofs.Common.{◌≡◌, ℕ, ◌+◌, ◌<◌, List, [], ◌∷◌, ◌++◌, length, map, vec_len, Vec, Option, sym, ap, subst, ◌∙◌, arith}
use Rattle.std.proofs.lemmas.List.{map_push}
use Rattle.book_core.specs.declared.fault.GrowFault.{GrowFault}
use Rattle.book_core.specs.declared.seat.Receipt.{Receipt}
use Rattle.book_core.specs.Lists.{Seated}
use Rattle.crew_core.specs.Crewing.{AreSent, AreHome}
use Rattle.crew_core.proofs.Homes.{home-more, sent_last, sent_rest, at_home}
use Rattle.std.proofs.lemmas.Grind.{common_steps}
use Rattle.crew_core.proofs.crewing.come_home.Goals as goal

pub loop-preserved : goal.loop-preserved
loop-preserved g c =
    let i = c.loop.invariant in
    let width = g.R.Record.form.width in
    let live = c.args._live.now in
    let source = c.args._source.now in
    let gate = c.args._gate.now in
    let n = c.loop.counter in
    let all = vec_len c.args.sent in
    let len = c.take_last.ensures.len in
    let left = i.left in
    let rest = c.take_last.new.self.items in
    let ok = c.take_last.new.self.ok in
    let last = c.take_last.result in
    let is = c.take_last.ensures.items in
    let sent : AreSent live source gate all (rest ++ last ∷ []) = subst (AreSent live source gate all) is i.sent in
    let here = sent_last live source gate all rest last sent in
    let number : last.grower ≡ n = let at = here.3 in omega arith in
    let come =
    at_home width live (g.S.Source.count_of) (g.S.Source.block_of) (g.G.Gate.may_stop) (g.G.Gate.has_let) (g.G.Gate.was_told) source gate n last here.0 here.1 here.2 number
    c.join-seat.result.seat c.join-seat.result.receipts.items c.join-seat.result.fault c.join-seat.ensures in
    let lens = i.lens in
    let rooms = i.rooms in
    let more =
    home-more width live (g.S.Source.count_of source) (g.S.Source.block_of source) (g.G.Gate.may_stop gate) (g.G.Gate.has_let gate) (g.G.Gate.was_told gate) n c.loop.seats.items
    (map (λ (its : Vec Receipt _). its.items) c.loop.receipts.items) c.loop.faults.items i.home c.join-seat.result.seat
    c.join-seat.result.receipts.items c.join-seat.result.fault come in
    record {
      left = omega arith;
      sent = sent_rest live source gate all rest last sent;
      lens = (
        (let l = lens.0 in let p = c.push_reserved.ensures.len in omega arith),
        (let l = lens.1 in let p = c.push_reserved-in-loop.ensures.len in omega arith),
        (let l = lens.2 in let p = c.push_reserved-in-loop-2.ensures.len in omega arith),
      );
      rooms = (
        (let l = rooms.0 in let p = c.push_reserved.ensures.capacity in omega arith),
        (let l = rooms.1 in let p = c.push_reserved-in-loop.ensures.capacity in omega arith),
        (let l = rooms.2 in let p = c.push_reserved-in-loop-2.ensures.capacity in omega arith),
      );
      home = rw (
        c.push_reserved.ensures.items,
        c.push_reserved-in-loop.ensures.items,
        c.push_reserved-in-loop-2.ensures.items,
        map_push (λ (its : Vec Receipt _). its.items) c.loop.receipts.items c.join-seat.result.receipts,
      ) more;
    }

pub loop-init : goal.loop-init
loop-init g c = grind (arith, common_steps)
