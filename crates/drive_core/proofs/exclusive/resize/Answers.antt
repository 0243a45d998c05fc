use Rattle.std.proofs.Common.{refl, ◌∙◌}
use Rattle.drive_core.proofs.VaultEvents.{rests_lent}
use Rattle.drive_core.proofs.Resized.{resize_answers, resize_refuses}
use Rattle.drive_core.proofs.exclusive.resize.Goals as goal

pub returns-in-Ok-clause-steps : goal.returns-in-Ok-clause-steps
returns-in-Ok-clause-steps g c = λ w tie.
    let new = c.resize-result.new.self in
    let e = c.in-Ok.ensures in
    resize_answers tie new (λ whole. c.len.ensures.counted whole ∙ c.len.ensures.is) (rests_lent tie new c.disk.ensures.disk c.disk.ensures.images)
    c.args.n c.args.v refl e.list e.up e.down e.nothing

pub returns-in-Err-clause-steps : goal.returns-in-Err-clause-steps
returns-in-Err-clause-steps g c = λ w tie.
    let new = c.resize-result.new.self in
    let e = c.in-Err.ensures in
    resize_refuses tie new (λ whole. c.len.ensures.counted whole ∙ c.len.ensures.is) (rests_lent tie new c.disk.ensures.disk c.disk.ensures.images)
    c.args.n c.args.v c.in-Err.fault refl e.list e.up e.down e.nothing
