use Rattle.std.proofs.Common.{◌≡◌, ◌+◌, [], ◌∷◌, ◌++◌, length, refl, ap, arith, Err}
use Rattle.std.proofs.lemmas.List.{length-append}
use Rattle.text_core.proofs.LineGroups.{HasGroups_start, HasGroups_next, HasGroups_all, first_bad_group}
use Rattle.image_core.proofs.file_of_lines.append_lines.Goals as goal

pub lines-init : goal.lines-init
lines-init g c = ([], HasGroups_start g.R.TextRecord.spelling c.args.input.now, refl, c.requires)

pub returns-in-Err-Bad-clause-refused : goal.returns-in-Err-Bad-clause-refused
returns-in-Err-Bad-clause-refused g c =
    let so_far = c.lines.invariant in
    let bad = c.in-Err-Bad.ensures.bad (ap Err c.in-Err-Bad.field-0-is) in
    first_bad_group g.R.TextRecord.spelling _ so_far.0 _ _ _ _ c.in-Some.ensures bad (ap (λ n. n + 1) so_far.2) so_far.1

pub lines-preserved : goal.lines-preserved
lines-preserved g c =
    let so_far = c.lines.invariant in
    let group = c.read_group.new.group.0 in
    let count : c.lines.lines + 1 ≡ length so_far.0 + 1 = ap (λ n. n + 1) so_far.2 in
    let len = length-append so_far.0 (group ∷ []) in (
      so_far.0 ++ group ∷ [],
      HasGroups_next g.R.TextRecord.spelling _ so_far.0 group _ _ _ c.in-Some.ensures c.in-Ok.ensures.read so_far.1,
      omega (arith, count, len),
      c.in_ok-take_group.ensures so_far.0 count so_far.3,
    )

pub returns-clause-read : goal.returns-clause-read
returns-clause-read g c =
    let so_far = c.lines.invariant in
    (so_far.0, HasGroups_all g.R.TextRecord.spelling _ so_far.0 _ c.in_default.ensures so_far.1, so_far.3)
