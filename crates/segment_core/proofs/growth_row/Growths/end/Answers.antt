use Rattle.std.proofs.Common.{◌≡◌, ◌++◌, ◌∷◌, [], length, drop, ap, ◌∙◌, refl, arith}
use Rattle.std.proofs.lemmas.List.{drop_all}
use Rattle.segment_core.specs.Growths.{end_from}
use Rattle.segment_core.proofs.GrowthRows.{growths_push, ends_push, end_push, last_range}
use Rattle.segment_core.proofs.growth_row.Growths.end.Goals as goal

pub invariant_of-self-2 : goal.invariant_of-self-2
invariant_of-self-2 g c =
    let len = c.len.ensures ∙ c.self.inside.records.ok.0 in
    rw (c.in_ok-push.ensures.items, len) (ends_push 0 c.self.inside.ends.items (length c.self.inside.records.items) c.self.invariant)

pub returns-clause-ok : goal.returns-clause-ok
returns-clause-ok g c =
    let row = c.self.inside.records.items in
    let ends = c.self.inside.ends.items in
    let len : c.len.result ≡ length row = c.len.ensures ∙ c.self.inside.records.ok.0 in
    let pushed = growths_push 0 ends c.len.result row in
    let last = last_range row (end_from 0 ends) c.len.result len in
    let rest : drop (end_from 0 (ends ++ c.len.result ∷ [])) row ≡ [] = ap (λ n. drop n row) (end_push 0 ends c.len.result) ∙ drop_all c.len.result row (omega arith) in
    rw (c.in_ok-push.ensures.items, ← c.self.view_is, pushed, last, rest) refl
