use Rattle.std.proofs.Common.{refl}
use Rattle.drive_core.specs.Asked.{step_of}
use Rattle.drive_core.proofs.LoopRuns.{driver_steps, stray_steps}
use Rattle.drive_core.proofs.driving.Driver.step.Goals as goal

pub returns-in-Some-clause-steps : goal.returns-in-Some-clause-steps
returns-in-Some-clause-steps g c = λ w tie. stray_steps (step_of c.args.asked.now) tie c.in-Some.is refl

pub returns-clause-steps : goal.returns-clause-steps
returns-clause-steps g c = λ w tie. driver_steps tie c.in_default.is c.stray_of-strayed.ensures (c.step-phase.ensures.steps w)
