use Rattle.std.proofs.Common.{◌++◌, ◌∷◌, [], length, refl, arith}
use Rattle.std.proofs.lemmas.List.{drop-append-le, length-append}
use Rattle.segment_core.specs.Growths.{end_from}
use Rattle.segment_core.proofs.GrowthRows.{growths_of_longer, ends_of_longer, end_within}
use Rattle.segment_core.proofs.growth_row.Growths.push.Goals as goal

pub invariant_of-self-2 : goal.invariant_of-self-2
invariant_of-self-2 g c =
    let row = c.self.inside.records.items in
    let len = length-append row (c.args.value ∷ []) in
    rw c.in_ok-push.ensures.items (ends_of_longer 0 c.self.inside.ends.items (length row) (length (row ++ c.args.value ∷ [])) (omega arith) c.self.invariant)

pub returns-clause-ok : goal.returns-clause-ok
returns-clause-ok g c =
    let row = c.self.inside.records.items in
    let ends = c.self.inside.ends.items in
    let same = growths_of_longer 0 ends row (c.args.value ∷ []) c.self.invariant in
    let rest = drop-append-le (end_from 0 ends) row (c.args.value ∷ []) (end_within 0 ends (length row) c.self.invariant) in
    rw (c.in_ok-push.ensures.items, ← c.self.view_is, same, rest) refl
