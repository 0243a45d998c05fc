use Rattle.std.proofs.lemmas.Grind.{common_steps}
use Rattle.std.proofs.Common.{◌≡◌, ◌≤◌, ◌<◌, ◌+◌, ◌-◌, ◌++◌, ⊎_elim, inl, get_or, append_assoc, ap, subst, ◌∙◌, arith}
use Rattle.std.specs.List.{range_with_len}
use Rattle.std.proofs.lemmas.List.{get_or_default}
use Rattle.segment_core.specs.declared.found.Home.{Home}
use Rattle.segment_core.specs.Found.{home_among}
use Rattle.pen_core.specs.HomeRuns.{positions_at, AreGreatestRuns}
use Rattle.pen_core.proofs.HomeRunSteps.{turn-to, turn-next, turn-last, ranges-join, first_or_in, part_placed, IsAdjacent-part, all_bounded}
use Rattle.pen_core.proofs.home_runs.append_run.Goals as goal

abbrev blank : Home
blank = record { position = 0; place = 0; count = 0 }

pub overflow_add-home : goal.overflow_add-home
overflow_add-home c =
    let to = turn-to 0 c.requires.homes.end c.args.homes.now c.loop-k.k blank c.requires.homes.in_turn c.loop-k-test.true in
    omega (arith, c.requires.homes.small)

pub overflow_mul-part : goal.overflow_mul-part
overflow_mul-part c =
    let home = get_or c.args.homes.now c.loop-k.k blank in
    let less : c.loop-k.at < c.args.to = omega (arith, c.loop-k.invariant.to, c.if-at-to.false) in
    let here = c.loop-k.invariant.here blank less c.loop-k-test.true in
    let fits =
    first_or_in c.args.width c.args.size c.args.homes.now c.loop-k.k blank c.loop-k.at c.requires.homes
    c.loop-k-test.true here.0 here.1 (omega arith) in
    omega arith

pub overflow_add-part : goal.overflow_add-part
overflow_add-part c =
    let less : c.loop-k.at < c.args.to = omega (arith, c.loop-k.invariant.to, c.if-at-to.false) in
    let here = c.loop-k.invariant.here blank less c.loop-k-test.true in
    let fits =
    first_or_in c.args.width c.args.size c.args.homes.now c.loop-k.k blank c.loop-k.at c.requires.homes
    c.loop-k-test.true here.0 here.1 (omega arith) in
    omega arith

pub append_part-requires-clause-bounded : goal.append_part-requires-clause-bounded
append_part-requires-clause-bounded c =
    let runs = c.loop-k.invariant.runs_are in
    all_bounded c.args.width c.args.size 0 c.loop-k.at c.args.homes.now c.loop-k.runs.items c.requires.homes
    (omega (arith, c.loop-k.invariant.to, c.requires.inside, c.requires.homes.reached, c.requires.homes.small))
    runs.ascend runs.each

pub append_part-requires-clause-placed : goal.append_part-requires-clause-placed
append_part-requires-clause-placed c = λ some.
    let less : c.loop-k.at < c.args.to = omega (arith, c.loop-k.invariant.to, c.if-at-to.false) in
    let here = c.loop-k.invariant.here blank less c.loop-k-test.true in
    part_placed c.args.width c.args.size c.args.homes.now c.loop-k.k blank c.loop-k.at c.min-end.result c.requires.homes
    c.loop-k-test.true here.0 (omega arith) (omega (arith, c.min-end.ensures))

pub loop-k-preserved : goal.loop-k-preserved
loop-k-preserved c =
    let homes = c.args.homes.now in
    let width = c.args.width in
    let turn = c.requires.homes.in_turn in
    let k = c.loop-k.k in
    let l = c.loop-k.invariant in
    let less : c.loop-k.at < c.args.to = omega (arith, l.to, c.if-at-to.false) in
    let here = l.here blank less c.loop-k-test.true in
    let home = get_or homes k blank in
    let end = c.min-end.ensures in
    let upto : c.loop-k.at ≤ home.position + home.count =
    ⊎_elim (λ (first : c.loop-k.at ≡ home.position). omega arith)
    (λ (inside : c.loop-k.at < home.position + home.count). omega arith) here.1 in
    let made = c.in_ok-append_part.ensures in
    let to : c.loop-k.at + (c.min-end.result - c.loop-k.at) ≡ c.min-end.result = omega arith in
    record {
      from = omega (arith, l.from);
      to = omega arith;
      here =
          λ d left lt. let next = turn-next 0 c.requires.homes.end homes k d turn lt in
          let same : (get_or homes k d).position + (get_or homes k d).count ≡ home.position + home.count = ap
          (λ (h : Home). h.position + h.count) (get_or_default homes k d blank c.loop-k-test.true) in
          (omega arith, inl (omega arith));
      all =
          λ le.
          omega (
            arith,
            turn-last 0 c.requires.homes.end homes k blank turn (omega (arith, c.loop-k-test.true)),
            c.requires.inside,
            c.requires.homes.reached,
          );
      positions = made.positions ∙ ap (λ ps. ps ++ range_with_len c.loop-k.at (c.min-end.result - c.loop-k.at)) l.positions
          ∙ append_assoc (positions_at c.args.runs.now.items) (range_with_len c.args.from (c.loop-k.at - c.args.from))
          (range_with_len c.loop-k.at (c.min-end.result - c.loop-k.at))
          ∙ ap (λ ps. positions_at c.args.runs.now.items ++ ps)
          (ranges-join c.args.from c.loop-k.at (c.min-end.result - c.loop-k.at) l.from
          ∙ ap (λ n. range_with_len c.args.from (n - c.args.from)) to);
      runs_are = subst (λ n. AreGreatestRuns width (home_among width homes) n c.append_part.new.runs.items) to
          (made.runs (home_among width homes)
          (IsAdjacent-part width c.requires.homes.end homes k blank c.loop-k.at c.min-end.result turn c.loop-k-test.true
          here.0 (omega arith))
          l.runs_are);
    }

pub returns-clause-positions : goal.returns-clause-positions
returns-clause-positions c =
    let l = c.loop-k.invariant in
    let done : c.loop-k.at ≡ c.args.to = omega (arith, l.to, l.all (omega (arith, c.loop-k-test.false))) in
    l.positions ∙ ap (λ n. positions_at c.args.runs.now.items ++ range_with_len c.args.from (n - c.args.from)) done

pub returns-clause-runs : goal.returns-clause-runs
returns-clause-runs c =
    let l = c.loop-k.invariant in
    let done : c.loop-k.at ≡ c.args.to = omega (arith, l.to, l.all (omega (arith, c.loop-k-test.false))) in
    subst (λ n. AreGreatestRuns c.args.width (home_among c.args.width c.args.homes.now) n c.loop-k.runs.items) done l.runs_are

pub loop-k-init : goal.loop-k-init
loop-k-init c = grind (arith, common_steps)

pub overflow_sub-part-in-loop-k : goal.overflow_sub-part-in-loop-k
overflow_sub-part-in-loop-k c = grind (arith, common_steps)

pub overflow_sub-part : goal.overflow_sub-part
overflow_sub-part c = grind (arith, common_steps)
