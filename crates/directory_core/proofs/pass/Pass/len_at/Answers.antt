use Rattle.std.proofs.Common.{◌<◌, ◌≤◌, ◌+◌, arith, ap, length}
use Rattle.std.proofs.lemmas.List.{get_or_read}
use Rattle.directory_core.specs.Notes.{known_of, somes}
use Rattle.directory_core.proofs.Lists.{entry_at, ends_at, follows_there, as_many_starts}
use Rattle.directory_core.proofs.pass.Pass.len_at.Goals as goal

pub overflow_sub-result : goal.overflow_sub-result
overflow_sub-result g c =
    let es = ap (λ v. length v.entries) c.self.view_is in
    let many = as_many_starts c.self.invariant.list in
    let lt : c.args.number < length (somes (known_of c.self.inside.notes.items)) = omega (arith, es, c.requires) in
    let e = entry_at c.self.invariant.list c.args.number lt in
    let here = get_or_read c.self.inside.starts.items c.args.number c.index.result.now (omega arith) c.index.ensures 0 in
    let more : c.args.number + 1 < length c.self.inside.starts.items = omega (arith, c.if-number-len.true, c.len.ensures) in
    let next = get_or_read c.self.inside.starts.items (c.args.number + 1) c.index-then-number-len.result.now more c.index-then-number-len.ensures 0 in
    let ends = (ends_at c.self.invariant.list c.args.number e.0 e.1).0 more in
    omega arith

pub overflow_sub-result-else-number-len : goal.overflow_sub-result-else-number-len
overflow_sub-result-else-number-len g c =
    let es = ap (λ v. length v.entries) c.self.view_is in
    let many = as_many_starts c.self.invariant.list in
    let lt : c.args.number < length (somes (known_of c.self.inside.notes.items)) = omega (arith, es, c.requires) in
    let e = entry_at c.self.invariant.list c.args.number lt in
    let here = get_or_read c.self.inside.starts.items c.args.number c.index.result.now (omega arith) c.index.ensures 0 in
    let last : length c.self.inside.starts.items ≤ c.args.number + 1 = omega (arith, c.if-number-len.false, c.len.ensures) in
    let ends = (ends_at c.self.invariant.list c.args.number e.0 e.1).1 last in
    omega arith

pub returns-then-number-len : goal.returns-then-number-len
returns-then-number-len g c =
    let es = ap (λ v. length v.entries) c.self.view_is in
    let many = as_many_starts c.self.invariant.list in
    let lt : c.args.number < length (somes (known_of c.self.inside.notes.items)) = omega (arith, es, c.requires) in
    let here = get_or_read c.self.inside.starts.items c.args.number c.index.result.now (omega arith) c.index.ensures 0 in
    let more : c.args.number + 1 < length c.self.inside.starts.items = omega (arith, c.if-number-len.true, c.len.ensures) in
    let next = get_or_read c.self.inside.starts.items (c.args.number + 1) c.index-then-number-len.result.now more c.index-then-number-len.ensures 0 in
    rw (← c.self.view_is) (follows_there c.self.invariant.list c.args.number _ lt (λ e is. let ends = (ends_at c.self.invariant.list c.args.number e is).0 more in omega arith))

pub returns-else-number-len : goal.returns-else-number-len
returns-else-number-len g c =
    let es = ap (λ v. length v.entries) c.self.view_is in
    let many = as_many_starts c.self.invariant.list in
    let lt : c.args.number < length (somes (known_of c.self.inside.notes.items)) = omega (arith, es, c.requires) in
    let here = get_or_read c.self.inside.starts.items c.args.number c.index.result.now (omega arith) c.index.ensures 0 in
    let last : length c.self.inside.starts.items ≤ c.args.number + 1 = omega (arith, c.if-number-len.false, c.len.ensures) in
    rw (← c.self.view_is) (follows_there c.self.invariant.list c.args.number _ lt (λ e is. let ends = (ends_at c.self.invariant.list c.args.number e is).1 last in omega arith))
