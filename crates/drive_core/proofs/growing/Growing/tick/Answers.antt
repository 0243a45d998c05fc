use Rattle.std.proofs.Common.{ap, ◌∙◌}
use Rattle.drive_core.specs.Medium.{medium}
use Rattle.drive_core.specs.Step as step
use Rattle.drive_core.specs.Asked.{answer_of}
use Rattle.drive_core.proofs.Lanes.{lent_tick, lane_answers, lane_refuses}
use Rattle.drive_core.proofs.growing.Growing.tick.Goals as goal
use Rattle.drive_core.proofs.growing.Growing.tick.Goals.{in-Ok, in-Err}

pub returns-clause-steps : goal.returns-clause-steps
returns-clause-steps g c = rw (← c.self.view_is) (
    let m = medium g.R.Record.form g.D.Disk.states g.D.Disk.faults g.D.Disk.keeps in
    let e = c.tick-ticked.ensures in
    let tick = lent_tick m c.self.inside.live c.self.invariant.0 e.same e.opening e.model e.images c.disk.ensures.disk c.disk.ensures.images in
    elim c.match-ticked.branch [
      | in-Ok b ↦ λ w phase tie.
          let ok = b.in-Ok.ensures in
          lane_answers tie tick c.args.lane b.in-Ok.tick (ap answer_of b.result-is) e.time ok.ticked ok.whole.0 ok.whole.1 ok.settled
      | in-Err b ↦ λ w phase tie.
          let err = b.in-Err.ensures in
          lane_refuses tie tick c.args.lane b.in-Err.fault (ap answer_of b.result-is ∙ ap step.Refused b.told_fault.ensures) e.time err.refused err.failed err.faults
    ])
