use Rattle.std.proofs.Common.{ap, length, arith}
use Rattle.std.specs.Slice.Iter.{iter_rest}
use Rattle.book_core.proofs.Turns.{slices_begun, steps_shorter}
use Rattle.book_core.proofs.snapshot.records.RecordsIterator.next.Goals as goal

pub invariant_of-self-2 : goal.invariant_of-self-2
invariant_of-self-2 g c =
    let i = c.self.invariant in
    let behind = i.1 in
    let limit = i.2 in
    let begun = slices_begun (iter_rest c.self.inside.slices) (iter_rest c.next-2.new.self) c.in_ok-slice.slice.now c.in_ok-slice.ensures.steps i.0 in
    let sum = begun.1 in
    let shorter = steps_shorter c.iter-self-inside.result c.next-3.new.self c.next-3.result c.next-3.ensures.steps in
    let here = ap length c.iter-self-inside.ensures.rest in
    (begun.0, omega arith, omega arith)
