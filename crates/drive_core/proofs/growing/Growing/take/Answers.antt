use Rattle.std.proofs.Common.{ap, ◌∙◌}
use Rattle.drive_core.specs.Step as step
use Rattle.drive_core.specs.Asked.{answer_of}
use Rattle.drive_core.proofs.Quiet.{idle_job}
use Rattle.drive_core.proofs.Taken.{take_answers, take_refuses}
use Rattle.drive_core.proofs.growing.Growing.take.Goals as goal
use Rattle.drive_core.proofs.growing.Growing.take.Goals.{in-Ok, in-Err}

pub returns-clause-steps : goal.returns-clause-steps
returns-clause-steps g c = rw (← c.self.view_is) (
    let new = c.take_group.new.self in
    let e = c.take_group.ensures in
    elim c.match-take_group.branch [
      | in-Ok b ↦ λ w phase tie.
          let ok = b.in-Ok.ensures in
          take_answers tie new e.same.0 e.same.2 b.in-Ok.count ok.taken ok.greatest ok.idle (ap answer_of b.result-is)
          ok.begun ok.none ok.room (idle_job c.self.inside.flusher.pen ok.idle)
      | in-Err b ↦ λ w phase tie.
          let err = b.in-Err.ensures in
          take_refuses tie new e.same.0 e.same.2 b.in-Err.fault (ap answer_of b.result-is ∙ ap step.Refused b.told_fault.ensures) err.refused err.unchanged.0 err.unchanged.1
    ])
