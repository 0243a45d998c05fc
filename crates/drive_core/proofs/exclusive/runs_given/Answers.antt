use Rattle.std.proofs.Common.{ap, ◌∙◌, ◌++◌, ◌∷◌, [], length}
use Rattle.segment_core.specs.Runs as run_lists
use Rattle.drive_core.proofs.Seats.{lent_at}
use Rattle.drive_core.proofs.Givens.{runs_more, runs_all}
use Rattle.drive_core.proofs.exclusive.runs_given.Goals as goal

pub loop-start-preserved : goal.loop-start-preserved
loop-start-preserved g c =
    let runs = c.args.runs.now in
    let item = c.loop-start-item.result in
    let at = lent_at runs c.loop-start.start-index item c.loop-start-test.true c.loop-start-item.is in
    ap run_lists.runs_given (c.in_ok-push.ensures.items ∙ ap (λ rs. c.loop-start.list.items ++ (item.0, length rs) ∷ []) c.as_slice.ensures.value)
    ∙ runs_more c.loop-start.list.items runs c.loop-start.start-index item at c.loop-start.invariant

pub returns-clause-list : goal.returns-clause-list
returns-clause-list g c = runs_all c.loop-start.list.items c.args.runs.now c.loop-start.start-index c.loop-start-test.false c.loop-start.invariant
