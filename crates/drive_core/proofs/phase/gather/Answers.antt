use Rattle.std.proofs.Common.{refl, sym, subst}
use Rattle.drive_core.proofs.Gathered.{gather_answers, gather_refuses}
use Rattle.drive_core.proofs.phase.gather.Goals as goal

pub returns-in-Ok-clause-steps : goal.returns-in-Ok-clause-steps
returns-in-Ok-clause-steps g c = λ w tie.
    let e = c.in-Ok.ensures in
    gather_answers tie.1 c.in-Ok.vault e.pen e.list e.whole (λ kept. c.disk.ensures.whole (subst g.D.Disk.keeps (sym c.disk.ensures.disk) kept)) c.len-size.result refl c.len-size.ensures.is

pub returns-in-Err-clause-steps : goal.returns-in-Err-clause-steps
returns-in-Err-clause-steps g c = λ w tie. gather_refuses tie.1 c.in-Err.fault c.in-Err.ensures.back.0 refl c.in-Err.ensures.back.1
