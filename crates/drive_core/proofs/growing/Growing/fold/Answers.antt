use Rattle.std.proofs.Common.{ap, ◌∙◌}
use Rattle.drive_core.specs.Medium.{medium}
use Rattle.drive_core.specs.Step as step
use Rattle.drive_core.specs.Asked.{answer_of}
use Rattle.drive_core.proofs.Folds.{fold_answers, fold_refuses, opens_lent}
use Rattle.drive_core.proofs.growing.Growing.fold.Goals as goal
use Rattle.drive_core.proofs.growing.Growing.fold.Goals.{in-Ok, in-Err}

pub returns-clause-steps : goal.returns-clause-steps
returns-clause-steps g c = rw (← c.self.view_is) (
    let m = medium g.R.Record.form g.D.Disk.states g.D.Disk.faults g.D.Disk.keeps in
    let new = c.begin_fold.new.self in
    let e = c.begin_fold.ensures in
    elim c.match-begin_fold.branch [
      | in-Ok b ↦ λ w phase tie.
          fold_answers tie new e.same.0 e.same.3 e.same.4 b.in-Ok.ensures.plans (opens_lent m c.self.inside.flusher c.disk.ensures.disk c.disk.ensures.images)
          b.in-Ok.begun (ap answer_of b.result-is) b.in-Ok.ensures.begun
      | in-Err b ↦ λ w phase tie.
          fold_refuses tie new e.same.0 e.same.3 e.same.4 b.in-Err.fault (ap answer_of b.result-is ∙ ap step.Refused b.told_fault.ensures) b.in-Err.ensures.refused b.in-Err.ensures.unchanged
    ])
