use Rattle.std.proofs.Common.{refl}
use Rattle.drive_core.proofs.VaultLanes.{fold_answers, fold_refuses, opens_lent}
use Rattle.drive_core.proofs.exclusive.fold.Goals as goal

pub returns-in-Ok-clause-steps : goal.returns-in-Ok-clause-steps
returns-in-Ok-clause-steps g c = λ w tie.
    let e = c.in-Ok.ensures in
    let opens = opens_lent g.D.Disk.keeps g.D.Disk.states c.args.vault.now.pen c.disk.ensures.disk c.disk.ensures.kept in
    fold_answers tie c.begin_fold.new.self e.list.0 e.list.1 e.plans opens c.in-Ok.begun refl e.begun

pub returns-in-Err-clause-steps : goal.returns-in-Err-clause-steps
returns-in-Err-clause-steps g c = λ w tie.
    let e = c.in-Err.ensures in
    fold_refuses tie c.begin_fold.new.self e.list.0 e.list.1 c.in-Err.fault refl e.refused e.unchanged
