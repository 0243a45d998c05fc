use Rattle.std.proofs.Common.{◌-◌, List, refl, sym, ap, subst, ◌∙◌, arith}
use Rattle.segment_core.specs.declared.found.Home.{Home}
use Rattle.segment_core.specs.Found.{home_among, AreInTurn}
use Rattle.segment_core.proofs.FoundHomes.{in_turn_push, in_turn_pop, home_among_popped, home_among_cut}
use Rattle.segment_core.proofs.homes.cut.Goals as goal

pub returns-then-home-size-clause-in_turn : goal.returns-then-home-size-clause-in_turn
returns-then-home-size-clause-in_turn c =
    let home : Home = c.in-Some.home in
    let left : List Home = c.pop.new.self.items in
    let so_far = c.loop-home.invariant.in_turn in
    let below = c.if-home-size.true in
    let turn = in_turn_pop 0 so_far.0 left home (subst (λ (hs : List Home). AreInTurn 0 hs so_far.0) c.in-Some.ensures.items so_far.2) in
    let short : Home = record { position = home.position; place = home.place; count = c.args.size - home.position } in
    subst (λ (hs : List Home). AreInTurn 0 hs c.args.size) (sym c.push_reserved.ensures.items)
    (in_turn_push 0 home.position c.args.size left short turn.0 refl (omega arith))

pub returns-then-home-size-clause-each : goal.returns-then-home-size-clause-each
returns-then-home-size-clause-each c = λ width i lt. (
    let home : Home = c.in-Some.home in
    let left : List Home = c.pop.new.self.items in
    let so_far = c.loop-home.invariant.in_turn in
    let turn = in_turn_pop 0 so_far.0 left home (subst (λ (hs : List Home). AreInTurn 0 hs so_far.0) c.in-Some.ensures.items so_far.2) in
    let end = turn.1 in
    let reach = so_far.1 in
    ap (λ (hs : List Home). home_among width hs i) c.push_reserved.ensures.items
    ∙ home_among_cut width i c.args.size left home lt c.if-home-size.true (omega arith)
    ∙ sym (ap (λ (hs : List Home). home_among width hs i) c.in-Some.ensures.items)
    ∙ c.loop-home.invariant.each width i lt)

pub loop-home-preserved : goal.loop-home-preserved
loop-home-preserved c =
    let home : Home = c.in-Some.home in
    let left : List Home = c.pop.new.self.items in
    let so_far = c.loop-home.invariant.in_turn in
    let turn = in_turn_pop 0 so_far.0 left home (subst (λ (hs : List Home). AreInTurn 0 hs so_far.0) c.in-Some.ensures.items so_far.2) in
    record {
      in_turn = (home.position, c.if-home-size.false, turn.0);
      each = λ width i lt. (
          home_among_popped width i c.args.size left home lt c.if-home-size.false
          ∙ sym (ap (λ (hs : List Home). home_among width hs i) c.in-Some.ensures.items)
          ∙ c.loop-home.invariant.each width i lt);
    }
