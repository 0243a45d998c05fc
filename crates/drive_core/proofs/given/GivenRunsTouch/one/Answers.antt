use Rattle.std.proofs.Common.{sym, ap, ◌∙◌, ◌≡◌, Some, None}
use Rattle.drive_core.specs.Given.{run_record_at}
use Rattle.drive_core.proofs.Seats.{lent_at}
use Rattle.drive_core.proofs.Givens.{given_some, given_none, given_past}
use Rattle.drive_core.proofs.given.GivenRunsTouch.one.Goals as goal

pub returns-in-Some : goal.returns-in-Some
returns-in-Some g c =
    let runs = c.args.self.now.runs.now in
    let item = c.loop-start-item.result in
    let at = lent_at runs c.loop-start.start-index item c.loop-start-test.true c.loop-start-item.is in
    let here : run_record_at (item.0, item.1.items) c.args.at ≡ Some c.in-Some.record
    = ap (λ rs. run_record_at (item.0, rs) c.args.at) (sym c.as_slice.ensures.value) ∙ sym c.record_in.ensures ∙ c.in-Some.is in
    sym (c.loop-start.invariant ∙ given_some runs c.loop-start.start-index item c.args.at c.args.r c.in-Some.record at here)

pub loop-start-preserved : goal.loop-start-preserved
loop-start-preserved g c =
    let runs = c.args.self.now.runs.now in
    let item = c.loop-start-item.result in
    let at = lent_at runs c.loop-start.start-index item c.loop-start-test.true c.loop-start-item.is in
    let here : run_record_at (item.0, item.1.items) c.args.at ≡ None = ap (λ rs. run_record_at (item.0, rs) c.args.at) (sym c.as_slice.ensures.value) ∙ sym c.record_in.ensures ∙ c.in_default.is in
    c.loop-start.invariant ∙ given_none runs c.loop-start.start-index item c.args.at c.args.r at here

pub returns : goal.returns
returns g c = sym (c.loop-start.invariant ∙ given_past c.args.self.now.runs.now c.loop-start.start-index c.args.at c.args.r c.loop-start-test.false)
