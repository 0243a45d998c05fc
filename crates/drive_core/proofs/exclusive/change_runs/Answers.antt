use Rattle.std.proofs.Common.{refl, ap, ◌∙◌, arith}
use Rattle.segment_core.specs.Runs as run_lists
use Rattle.drive_core.specs.Given.{pieces_of}
use Rattle.drive_core.proofs.VaultEvents.{rests_lent}
use Rattle.drive_core.proofs.OneChange.{runs_answers, runs_refuses, no_list, pieces_long}
use Rattle.drive_core.proofs.exclusive.change_runs.Goals as goal

pub returns-in-Ok-result-clause-steps : goal.returns-in-Ok-result-clause-steps
returns-in-Ok-result-clause-steps g c = λ w tie.
    let new = c.change_runs-result.new.self in
    let e = c.in-Ok-result.ensures in
    runs_answers tie new (λ whole. c.len.ensures.counted whole ∙ c.len.ensures.is) (rests_lent tie new c.disk.ensures.disk c.disk.ensures.images)
    (pieces_of c.args.runs.now) c.as_slice.result.now (ap run_lists.runs_given c.as_slice.ensures.value ∙ c.in-Ok.ensures.list) refl e.list e.command e.nothing

pub returns-clause-steps : goal.returns-clause-steps
returns-clause-steps g c = λ w tie.
    let new = c.change_runs-result.new.self in
    let e = c.in-Err.ensures in
    runs_refuses tie new (λ whole. c.len.ensures.counted whole ∙ c.len.ensures.is) (rests_lent tie new c.disk.ensures.disk c.disk.ensures.images)
    (pieces_of c.args.runs.now) c.as_slice.result.now (ap run_lists.runs_given c.as_slice.ensures.value ∙ c.in-Ok.ensures.list) c.in-Err.fault refl e.list e.command e.nothing

pub returns-in_default-clause-steps : goal.returns-in_default-clause-steps
returns-in_default-clause-steps g c = λ w tie.
    no_list tie (pieces_of c.args.runs.now) (let long = pieces_long c.args.runs.now in omega (arith, long, c.in_default.ensures.some)) refl
