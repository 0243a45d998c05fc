use Rattle.std.proofs.Common.{◌≡◌, ◌-◌, ◌*◌, refl, length, sym, ap, ◌∙◌, arith}
use Rattle.segment_core.specs.Frame.{runs_len, records_of_runs}
use Rattle.segment_core.specs.Layout.{run_count_in, runs_in}
use Rattle.segment_core.proofs.Payload.{no_change, length-new_in}
use Rattle.stat_core.proofs.outline.read_change.Goals as goal

pub returns-then-runs-eq0-clause-shown : goal.returns-then-runs-eq0-clause-shown
returns-then-runs-eq0-clause-shown c payload size count =
    no_change c.args.shape payload (λ p. let some = p.some in let none = c.if-runs-eq0.true in omega arith)

pub returns-in_err-records-clause-shown : goal.returns-in_err-records-clause-shown
returns-in_err-records-clause-shown c payload size count =
    rw c.from_residual.ensures (no_change c.args.shape payload (λ p.
    let head = ap (runs_len c.args.shape.format) count in
    let head_is = c.runs_len-head_len.ensures in
    let inside = p.inside in
    let filled : records_of_runs (runs_in c.args.shape payload) * c.args.shape.width ≡ length payload - runs_len c.args.shape.format (run_count_in c.args.shape.format payload)
    = sym p.filled ∙ length-new_in c.args.shape.format payload (run_count_in c.args.shape.format payload) refl in
    c.in_err-records.ensures (records_of_runs (runs_in c.args.shape payload)) (omega arith) (omega arith)))
