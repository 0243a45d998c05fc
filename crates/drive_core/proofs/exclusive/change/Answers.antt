use Rattle.std.proofs.Common.{refl, ◌∙◌}
use Rattle.drive_core.proofs.VaultEvents.{rests_lent}
use Rattle.drive_core.proofs.OneChange.{one_answers, one_refuses}
use Rattle.drive_core.proofs.exclusive.change.Goals as goal

pub returns-in-Ok-clause-steps : goal.returns-in-Ok-clause-steps
returns-in-Ok-clause-steps g c = λ w tie.
    let new = c.change-result.new.self in
    let e = c.in-Ok.ensures in
    one_answers tie new (λ whole. c.len.ensures.counted whole ∙ c.len.ensures.is) (rests_lent tie new c.disk.ensures.disk c.disk.ensures.images)
    c.args.start c.args.records.now refl e.list e.command e.nothing

pub returns-in-Err-clause-steps : goal.returns-in-Err-clause-steps
returns-in-Err-clause-steps g c = λ w tie.
    let new = c.change-result.new.self in
    let e = c.in-Err.ensures in
    one_refuses tie new (λ whole. c.len.ensures.counted whole ∙ c.len.ensures.is) (rests_lent tie new c.disk.ensures.disk c.disk.ensures.images)
    c.args.start c.args.records.now c.in-Err.fault refl e.list e.command e.nothing
