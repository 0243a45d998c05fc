use Rattle.std.proofs.Common.{◌≡◌, ◌+◌, ◌-◌, ◌*◌, refl, length, sum, sym, ◌∙◌, arith}
use Rattle.segment_core.specs.Layout.{count_in, lengths_in}
use Rattle.segment_core.proofs.Payload.{no_group, length-homes_in}
use Rattle.stat_core.proofs.outline.read_group.Goals as goal

pub returns-then-growths-eq0-clause-shown : goal.returns-then-growths-eq0-clause-shown
returns-then-growths-eq0-clause-shown c payload size count =
    no_group c.args.shape.width payload (λ p. let some = p.some in let none = c.if-growths-eq0.true in omega arith)

pub returns-in_err-records-clause-shown : goal.returns-in_err-records-clause-shown
returns-in_err-records-clause-shown c payload size count =
    rw c.from_residual.ensures (no_group c.args.shape.width payload (λ p.
    let inside = p.inside in
    let filled : sum (lengths_in payload) * c.args.shape.width ≡ length payload - (4 + count_in payload * 4) = sym p.filled ∙ length-homes_in payload (count_in payload) refl in
    c.in_err-records.ensures (sum (lengths_in payload)) (omega arith) (omega arith)))
