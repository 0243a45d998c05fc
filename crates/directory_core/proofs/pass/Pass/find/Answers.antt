use Rattle.std.proofs.Common.{arith, ap, length}
use Rattle.directory_core.proofs.Lists.{as_many_starts, first_start, finds}
use Rattle.directory_core.proofs.pass.Pass.find.Goals as goal

pub returns-clause-place : goal.returns-clause-place
returns-clause-place g c =
    let found = c.last_start_by-number.ensures in
    let row = c.as_slice-starts.ensures.value in
    let inside = found.inside in
    rw (← c.self.view_is, row)
    (finds c.self.invariant.list c.last_start_by-number.result c.args.i (omega (arith, ap length row)) (rw (← row) found.from)
    (λ more. rw (← row) (found.until (rw row more))) (omega (arith, c.if-i-self.false)))

pub last_start_by-number-requires-clause-first : goal.last_start_by-number-requires-clause-first
last_start_by-number-requires-clause-first g c = rw c.as_slice-starts.ensures.value (first_start c.self.invariant.list c.args.i (omega (arith, c.if-i-self.false))).1

pub last_start_by-number-requires-clause-some : goal.last_start_by-number-requires-clause-some
last_start_by-number-requires-clause-some g c =
    let row = ap length c.as_slice-starts.ensures.value in
    let many = as_many_starts c.self.invariant.list in
    let some = (first_start c.self.invariant.list c.args.i (omega (arith, c.if-i-self.false))).0 in
    (omega arith, omega (arith, c.self.invariant.list.in_room, c.self.invariant.list.limits))

pub returns-clause-in_directory : goal.returns-clause-in_directory
returns-clause-in_directory g c =
    let row = ap length c.as_slice-starts.ensures.value in
    let many = as_many_starts c.self.invariant.list in
    omega (arith, c.last_start_by-number.ensures.inside, c.self.invariant.list.in_room, c.self.invariant.list.limits)
