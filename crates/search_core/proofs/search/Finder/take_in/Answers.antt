use Rattle.std.proofs.Common.{◌≡◌, ◌-◌, ◌++◌, ◌∙◌, length, ap, sym, subst, rules, arith}
use Rattle.std.proofs.lemmas.List.{length-append, append-nil, nil_from_length}
use Rattle.search_core.specs.Search.{PassesOver}
use Rattle.search_core.proofs.Counts.{none_left}
use Rattle.search_core.proofs.Firsts.{passes_found, passes_on, first_before}
use Rattle.search_core.proofs.search.Finder.take_in.Goals as goal

pub returns-in-Some-clause-found : goal.returns-in-Some-clause-found
returns-in-Some-clause-found g c =
    let p = g.P.Pick.picks_of c.args.pick.now in
    let batch = c.loop-rest.self.batch.1 in
    let rest = c.loop-rest.rest.now in
    let found = c.in-Some.ensures.found in
    passes_found p c.args.self.now.before c.loop-rest.self.before c.in-Some.found (c.args.self.now.batch.1 ++ c.args.piece.now) (batch ++ rest) c.loop-rest.invariant.passed found.0
    (first_before p batch rest (c.in-Some.found - c.loop-rest.self.before) found.1)

pub loop-rest-preserved : goal.loop-rest-preserved
loop-rest-preserved g c =
    let p = g.P.Pick.picks_of c.args.pick.now in
    let i = c.loop-rest.invariant in
    let cut : c.loop-rest.rest.now ≡ c.split_at.result.0.now ++ c.split_at.result.1.now = search rules in
    let seen = c.in_default.ensures.seen in
    let so_far = i.seen in
    record {
      passed = subst
          (λ rs. PassesOver p c.args.self.now.before (c.args.self.now.batch.1 ++ c.args.piece.now) c.make_room.new.self.before
          (rs ++ c.split_at.result.1.now)) (sym (ap (λ q. q.1) c.push.ensures))
          (passes_on p c.args.self.now.before c.loop-rest.self.before c.make_room.new.self.before (c.args.self.now.batch.1 ++ c.args.piece.now)
          c.loop-rest.self.batch.1 c.loop-rest.rest.now c.make_room.new.self.batch.1 c.split_at.result.0.now c.split_at.result.1.now i.passed
          c.in_default.ensures.found cut);
      seen = omega (arith, seen, so_far, ap length cut, length-append c.split_at.result.0.now c.split_at.result.1.now);
    }

pub invariant_of-self : goal.invariant_of-self
invariant_of-self g c = record {
  all = omega (
    arith,
    c.make_room.new.self.all,
    ap (λ q. length q.1) c.push.ensures,
    length-append c.make_room.new.self.batch.1 c.split_at.result.0.now,
  );
}

pub returns-clause-found : goal.returns-clause-found
returns-clause-found g c =
    let batch = c.loop-rest.self.batch.1 in
    let none = nil_from_length c.loop-rest.rest.now (none_left (length c.loop-rest.rest.now) c.loop-rest-test.ensures) in
    subst (PassesOver (g.P.Pick.picks_of c.args.pick.now) c.args.self.now.before (c.args.self.now.batch.1 ++ c.args.piece.now) c.loop-rest.self.before)
    (ap (λ rs. batch ++ rs) none ∙ append-nil batch) c.loop-rest.invariant.passed
