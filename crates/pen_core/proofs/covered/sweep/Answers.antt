use Rattle.std.proofs.lemmas.Grind.{common_steps}
use Rattle.std.proofs.Common.{◌<◌, length, ◌∙◌, sym, arith}
use Rattle.std.proofs.lemmas.Bool.{eqb-false}
use Rattle.pen_core.proofs.Covers.{AreSorted-from, swept-first, swept-gap, swept-joined, swept-all}
use Rattle.pen_core.proofs.covered.sweep.Goals as goal
use Rattle.pen_core.proofs.covered.sweep.Goals.{then-end-next, else-end-next}

pub loop-k-init : goal.loop-k-init
loop-k-init c =
    let runs = c.args.runs.now in
    let none = eqb-false (length runs) 0 (sym c.is_empty.ensures ∙ c.if-is_empty.false) in
    let some : 0 < length runs = omega (arith, none) in
    rw c.in_ok-cover.ensures.items record {
      swept = swept-first runs (AreSorted-from runs c.requires.some c.requires.inside c.requires.ascend) some;
      most = some;
      room = omega (arith, c.in_ok-cover.ensures.capacity);
    }

pub overflow_sub-end : goal.overflow_sub-end
overflow_sub-end c = omega (arith, c.loop-k.invariant.swept.some)

pub push_reserved-requires : goal.push_reserved-requires
push_reserved-requires c = omega (arith, c.loop-k.invariant.swept.fewer, c.loop-k.invariant.room)

pub loop-k-preserved : goal.loop-k-preserved
loop-k-preserved c =
    let runs = c.args.runs.now in
    let sorted = AreSorted-from runs c.requires.some c.requires.inside c.requires.ascend in
    let l = c.loop-k in
    elim c.if-end-next.branch [
      | then-end-next w ↦ rw (w.cover-is, w.start-is, w.end-is, w.push_reserved.ensures.items) record {
        swept = swept-gap runs l.k l.start l.end l.cover.items sorted c.loop-k-test.true l.invariant.swept w.if-end-next.true;
        most = omega arith;
        room = omega (arith, l.invariant.room, w.push_reserved.ensures.capacity);
      }
      | else-end-next w ↦ rw (w.cover-is, w.start-is, w.end-is, w.max-end.ensures) record {
        swept = swept-joined runs l.k l.start l.end l.cover.items sorted c.loop-k-test.true l.invariant.swept (omega (arith, w.if-end-next.false));
        most = omega arith;
        room = l.invariant.room;
      }
    ]

pub overflow_sub-end-2 : goal.overflow_sub-end-2
overflow_sub-end-2 c = omega (arith, c.loop-k.invariant.swept.some)

pub push_reserved-requires-2 : goal.push_reserved-requires-2
push_reserved-requires-2 c = omega (arith, c.loop-k.invariant.swept.fewer, c.loop-k.invariant.room, c.loop-k.invariant.most)

pub returns : goal.returns
returns c =
    rw c.push_reserved-2.ensures.items
    (swept-all c.args.runs.now c.loop-k.k c.loop-k.start c.loop-k.end c.loop-k.cover.items (omega arith)
    c.loop-k.invariant.swept)

pub returns-then-is_empty : goal.returns-then-is_empty
returns-then-is_empty c = grind (arith, common_steps)

pub overflow_add-end-then-end-next : goal.overflow_add-end-then-end-next
overflow_add-end-then-end-next c = grind (arith, common_steps)

pub overflow_add-next : goal.overflow_add-next
overflow_add-next c = grind (arith, common_steps)
