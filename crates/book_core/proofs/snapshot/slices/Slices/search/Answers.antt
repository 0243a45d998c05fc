use Rattle.std.proofs.Common.{arith, ap, length}
use Rattle.book_core.specs.Lists.{joined_pieces}
use Rattle.book_core.proofs.Slices.{length_is, few_full, first_start, finds}
use Rattle.book_core.proofs.snapshot.slices.Slices.search.Goals as goal

pub last_start_near-number-requires-clause-some : goal.last_start_near-number-requires-clause-some
last_start_near-number-requires-clause-some g c =
    let h = c.self.invariant.0 in
    let inside = c.requires in
    let same = ap (λ v. length (joined_pieces v.pieces)) c.self.view_is in
    let is = length_is h in
    let first = first_start h c.args.i (omega arith) in
    let few = few_full _ h.full in
    let size_is = h.size_is in
    let many = h.as_many in
    let in_limit = h.in_limit in
    rw c.as_slice-starts.ensures.value (first.0, omega arith)

pub last_start_near-number-requires-clause-first : goal.last_start_near-number-requires-clause-first
last_start_near-number-requires-clause-first g c = rw c.as_slice-starts.ensures.value (
    let h = c.self.invariant.0 in
    let inside = c.requires in
    let same = ap (λ v. length (joined_pieces v.pieces)) c.self.view_is in
    let is = length_is h in
    (first_start h c.args.i (omega arith)).1)

pub last_start_near-number-requires-clause-inside : goal.last_start_near-number-requires-clause-inside
last_start_near-number-requires-clause-inside g c =
    let h = c.self.invariant.0 in
    let inside = c.requires in
    let same = ap (λ v. length (joined_pieces v.pieces)) c.self.view_is in
    let is = length_is h in
    let in_limit = h.in_limit in
    (omega arith, omega arith)

pub returns : goal.returns
returns g c = rw (← c.self.view_is, c.as_slice-starts.ensures.value) (
    let h = c.self.invariant.0 in
    let inside = c.requires in
    let same = ap (λ v. length (joined_pieces v.pieces)) c.self.view_is in
    let is = length_is h in
    finds h c.last_start_near-number.result c.args.i (rw (← c.as_slice-starts.ensures.value) c.last_start_near-number.ensures)
    (omega arith))
