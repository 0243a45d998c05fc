use Rattle.std.proofs.lemmas.Nat.{mul-le}
use Rattle.std.proofs.Common.{◌≡◌, ◌++◌, length, drop, take, arith}
use Rattle.std.proofs.lemmas.List.{take_at}
use Rattle.pen_core.proofs.GreatestRuns.{next_positions, next_runs, next_next}
use Rattle.pen_core.proofs.home_runs.append_part.Goals as goal

pub loop-done-init : goal.loop-done-init
loop-done-init c =
    let new = c.lengthen_last-done.new.runs in
    let same : take c.args.runs.now.len (new ++ drop (length new) c.args.runs.now.items) ≡ new =
    take_at new (drop (length new) c.args.runs.now.items) c.args.runs.now.len
    (omega (arith, c.lengthen_last-done.auto.runs, c.deref_mut.ensures.len)) in
    let made = c.lengthen_last-done.ensures in
    rw (same, ← c.deref_mut.ensures.value) record {
      most = made.some;
      positions = made.positions;
      so_far = made.runs;
      next = made.next;
    }

pub loop-done-preserved : goal.loop-done-preserved
loop-done-preserved c =
    let width = c.args.width in
    let part = c.args.part in
    let done = c.loop-done.done in
    let runs = c.loop-done.runs.items in
    let count = c.min-count.ensures in
    let l = c.loop-done.invariant in
    rw c.in_ok-push.ensures.items record {
      most = omega arith;
      positions = next_positions width part done c.min-count.result runs c.args.runs.now.items l.positions;
      so_far =
          λ home adjacent old.
          next_runs width part done c.min-count.result runs home (l.so_far home adjacent old) adjacent (omega arith)
          (omega arith) (omega arith) (l.next old.greatest (omega arith));
      next = λ old less. next_next width part done c.min-count.result runs (l.next old (omega arith)) (omega arith);
    }

pub overflow_mul-done : goal.overflow_mul-done
overflow_mul-done c =
    let all = c.requires.placed (omega (arith, c.loop-done-test.true)) in
    let part = mul-le c.loop-done.done c.args.width c.args.part.count c.args.width (omega (arith, c.loop-done-test.true)) (omega arith) in
    omega (arith, part, all)

pub overflow_add-part-in-loop-done : goal.overflow_add-part-in-loop-done
overflow_add-part-in-loop-done c =
    let all = c.requires.placed (omega (arith, c.loop-done-test.true)) in
    let part = mul-le c.loop-done.done c.args.width c.args.part.count c.args.width (omega (arith, c.loop-done-test.true)) (omega arith) in
    omega (arith, part, all, c.requires.short, c.loop-done-test.true)
