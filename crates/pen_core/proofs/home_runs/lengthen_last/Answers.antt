use Rattle.std.proofs.lemmas.Grind.{common_steps}
use Rattle.std.proofs.Common.{◌-◌, ◌++◌, length, sym, ap, subst, ◌∙◌, arith}
use Rattle.std.specs.List.{range_with_len}
use Rattle.pen_core.specs.HomeRuns.{positions_at, IsBounded, Meets, behind}
use Rattle.pen_core.proofs.GreatestRuns.{longer_positions, longer_runs, full_next, apart_next}
use Rattle.pen_core.proofs.home_runs.lengthen_last.Goals as goal
use Rattle.pen_core.proofs.home_runs.lengthen_last.Goals.{then-last-part-via-then-last-part, then-last-part-via-else-last-part+then-last-width}

pub returns-then-last-part-clause-next : goal.returns-then-last-part-clause-next
returns-then-last-part-clause-next c = λ greatest some.
    let width = c.args.width in
    let last = c.in-Some.last.now in
    let item = c.in-Some.ensures.item in
    let next = behind width c.args.part 0 in
    elim c.then-last-part.branch [
      | then-last-part-via-then-last-part w ↦ rw w.runs-is
          (apart_next width c.args.runs.now last item.3.0 item.1 next greatest
          (λ (meets : Meets width last next). w.if-last-part.true (omega (arith, meets.0))))
      | then-last-part-via-else-last-part+then-last-width w ↦ rw w.runs-is
          (apart_next width c.args.runs.now last item.3.0 item.1 next greatest
          (λ (meets : Meets width last next). w.if-last-width.true (omega (arith, meets.1))))
    ]

pub returns-clause-positions : goal.returns-clause-positions
returns-clause-positions c =
    let runs = c.args.runs.now in
    let last = c.in-Some.last.now in
    let item = c.in-Some.ensures.item in
    longer_positions c.args.width runs last item.3.0 item.1 c.min-count.result
    ∙ ap (λ n. positions_at runs ++ range_with_len n c.min-count.result) c.if-last-part.false

pub returns-clause-runs : goal.returns-clause-runs
returns-clause-runs c = λ home adjacent so_far.
    let width = c.args.width in
    let runs = c.args.runs.now in
    let last = c.in-Some.last.now in
    let item = c.in-Some.ensures.item in
    let bounded = subst (IsBounded width) (sym item.1) (c.requires.bounded (length runs - 1) last (omega (arith, item.3.0))) in
    let meets : Meets width last c.args.part = (sym c.if-last-part.false, sym c.if-last-width.false) in
    let grown =
    longer_runs width runs last item.3.0 item.1 c.min-count.result home c.args.part.position c.args.part adjacent meets
    (omega (arith, c.min-count.ensures)) (omega (arith, c.min-count.ensures, bounded.few)) so_far in
    rw (← c.if-last-part.false) grown

pub returns-clause-next : goal.returns-clause-next
returns-clause-next c = λ greatest less.
    let width = c.args.width in
    let runs = c.args.runs.now in
    let last = c.in-Some.last.now in
    let item = c.in-Some.ensures.item in
    let bounded = subst (IsBounded width) (sym item.1) (c.requires.bounded (length runs - 1) last (omega (arith, item.3.0))) in
    full_next width runs last item.3.0 item.1 c.min-count.result (behind width c.args.part c.min-count.result) greatest
    (omega (arith, c.min-count.ensures, less, bounded.few))

pub returns-then-last-part-clause-positions : goal.returns-then-last-part-clause-positions
returns-then-last-part-clause-positions c = grind (arith, common_steps)

pub returns-then-last-part-clause-runs : goal.returns-then-last-part-clause-runs
returns-then-last-part-clause-runs c = grind (arith, common_steps)

pub returns-in_default-clause-next : goal.returns-in_default-clause-next
returns-in_default-clause-next c = grind (arith, common_steps)

pub overflow_sub-last : goal.overflow_sub-last
overflow_sub-last c = grind (arith, common_steps)

pub overflow_mul-last : goal.overflow_mul-last
overflow_mul-last c = grind (arith, common_steps)
