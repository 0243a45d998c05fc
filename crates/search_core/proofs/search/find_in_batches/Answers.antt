use Rattle.std.proofs.Common.{◌≡◌, ◌-◌, ◌++◌, ◌∷◌, [], length, Some, refl, ap, sym, subst, rules, arith}
use Rattle.std.proofs.lemmas.List.{length-append, append-nil}
use Rattle.search_core.specs.Search.{records_in, IsFirst, PassesOver}
use Rattle.search_core.proofs.Counts.{lent, lent_until, behind_push, few_behind}
use Rattle.search_core.proofs.Firsts.{passes_none, passes_len, passes_more, passes_found, passes_end}
use Rattle.search_core.proofs.search.find_in_batches.Goals as goal

pub take_in-requires-clause-few : goal.take_in-requires-clause-few
take_in-requires-clause-few g c κs within = (omega arith, omega (arith, c.requires.few [] c.args.behind refl))

pub returns-in-Some : goal.returns-in-Some
returns-in-Some g c =
    let p = g.P.Pick.picks_of c.args.pick.now in
    let all = subst (λ b. IsFirst p (b ++ c.args.head.now) (Some (c.in-Some.found - 0))) (ap (λ q. q.1) c.small.ensures) c.in-Some.ensures.found.1 in
    let same : c.in-Some.found - 0 ≡ c.in-Some.found = omega arith in (
      [],
      (c.args.behind, refl),
      subst (λ n. IsFirst p (c.args.head.now ++ []) (Some n)) same (subst (λ rs. IsFirst p rs (Some (c.in-Some.found - 0))) (sym (append-nil c.args.head.now)) all),
    )

pub loop-piece-init : goal.loop-piece-init
loop-piece-init g c =
    let p = g.P.Pick.picks_of c.args.pick.now in record {
      items = [];
      so_far = refl;
      passed = subst (λ rs. PassesOver p 0 rs c.take_in.new.self.before c.take_in.new.self.batch.1) (sym (append-nil c.args.head.now))
          (subst (λ b. PassesOver p 0 (b ++ c.args.head.now) c.take_in.new.self.before c.take_in.new.self.batch.1) (ap (λ q. q.1) c.small.ensures) c.in_default.ensures.found);
      can = c.requires.can;
      finite = c.requires.finite;
    }

pub take_in-requires-in-Some-next-clause-few : goal.take_in-requires-in-Some-next-clause-few
take_in-requires-in-Some-next-clause-few g c κs within =
    let p = g.P.Pick.picks_of c.args.pick.now in
    let i = c.loop-piece.invariant in
    let piece = c.in-Some-next.piece in
    let head = c.args.head.now in
    let lends = lent g.I.Iterator.next_gives p c.args.behind c.loop-piece.pieces c.next.new.self i.items piece (few_behind g.I.Iterator.next_gives head c.args.behind c.requires.few) i.so_far c.in-Some-next.ensures.steps in
    let few = c.requires.few (i.items ++ piece ∷ []) c.next.new.self lends in
    let all = passes_len p 0 c.loop-piece.finder.before (head ++ records_in i.items) c.loop-piece.finder.batch.1 i.passed in
    let seen = c.loop-piece.finder.all in (
      omega arith,
      omega (
        arith,
        few,
        all,
        seen,
        length-append head (records_in (i.items ++ piece ∷ [])),
        ap length (behind_push head i.items piece),
        length-append (head ++ records_in i.items) piece.now,
      ),
    )

pub returns-in-Some-take_in : goal.returns-in-Some-take_in
returns-in-Some-take_in g c =
    let p = g.P.Pick.picks_of c.args.pick.now in
    let i = c.loop-piece.invariant in
    let piece = c.in-Some-next.piece in
    let head = c.args.head.now in
    let left = c.loop-piece.finder.batch.1 in
    let found = c.in-Some-take_in.found in
    let e = c.in-Some-take_in.ensures.found in
    let more =
    passes_more p 0 c.loop-piece.finder.before c.loop-piece.finder.before (head ++ records_in i.items) left piece.now (left ++ piece.now) i.passed
    (passes_none p c.loop-piece.finder.before (left ++ piece.now)) in
    let first = passes_found p 0 c.loop-piece.finder.before found ((head ++ records_in i.items) ++ piece.now) (left ++ piece.now) more e.0 e.1 in
    let same : found - 0 ≡ found = omega arith in (
      i.items ++ piece ∷ [],
      (
        c.next.new.self,
        lent g.I.Iterator.next_gives p c.args.behind c.loop-piece.pieces c.next.new.self i.items piece
            (few_behind g.I.Iterator.next_gives head c.args.behind c.requires.few) i.so_far c.in-Some-next.ensures.steps,
      ),
      subst (λ n. IsFirst p (head ++ records_in (i.items ++ piece ∷ [])) (Some n)) same (subst (λ rs. IsFirst p rs (Some (found - 0))) (sym (behind_push head i.items piece)) first.1),
    )

pub loop-piece-preserved : goal.loop-piece-preserved
loop-piece-preserved g c =
    let p = g.P.Pick.picks_of c.args.pick.now in
    let i = c.loop-piece.invariant in
    let piece = c.in-Some-next.piece in
    let head = c.args.head.now in
    let on = c.in-Some-next.ensures.goes.on i.finite in
    let then = c.take_in-in-Some-next.new.self in
    record {
      items = i.items ++ piece ∷ [];
      so_far = lent g.I.Iterator.next_gives p c.args.behind c.loop-piece.pieces c.next.new.self i.items piece
          (few_behind g.I.Iterator.next_gives head c.args.behind c.requires.few) i.so_far c.in-Some-next.ensures.steps;
      passed = subst (λ rs. PassesOver p 0 rs then.before then.batch.1) (sym (behind_push head i.items piece))
          (passes_more p 0 c.loop-piece.finder.before then.before (head ++ records_in i.items) c.loop-piece.finder.batch.1 piece.now
          then.batch.1 i.passed c.in_default-take_in.ensures.found);
      can = on.0;
      finite = on.1;
    }

pub take_first-requires-clause-few : goal.take_first-requires-clause-few
take_first-requires-clause-few g c κs within =
    let i = c.loop-piece.invariant in
    let head = c.args.head.now in
    let all = passes_len (g.P.Pick.picks_of c.args.pick.now) 0 c.loop-piece.finder.before (head ++ records_in i.items) c.loop-piece.finder.batch.1 i.passed in
    (omega arith, omega (arith, c.loop-piece.finder.all, all, length-append head (records_in i.items), c.requires.few i.items c.loop-piece.pieces i.so_far))

pub returns : goal.returns
returns g c =
    let p = g.P.Pick.picks_of c.args.pick.now in
    let i = c.loop-piece.invariant in
    let e = c.take_first.ensures in (
      i.items,
      lent_until g.I.Iterator.next_gives c.args.behind c.loop-piece.pieces i.items c.take_first.result (search rules) i.so_far,
      passes_end p c.loop-piece.finder.before c.take_first.new.self.before (c.args.head.now ++ records_in i.items) c.loop-piece.finder.batch.1
          c.take_first.new.self.batch.1 c.take_first.result i.passed e.found (ap (λ q. q.1) e.none),
    )
