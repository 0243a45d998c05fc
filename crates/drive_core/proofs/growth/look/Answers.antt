use Rattle.std.proofs.Common.{ap, Some}
use Rattle.drive_core.specs.Step as step
use Rattle.drive_core.specs.GrowthRows.{IsLook}
use Rattle.drive_core.proofs.GrowthEvents.{seat_steps, misplaced_steps, of_none, wrong, by_clock}
use Rattle.drive_core.proofs.Steps.{asked_as}
use Rattle.drive_core.proofs.growth.look.Goals as goal

pub returns-in-Some-seat-clause-steps : goal.returns-in-Some-seat-clause-steps
returns-in-Some-seat-clause-steps g c = λ w phase tie.
    asked_as (ap step.Look c.in-Some.is) (seat_steps tie (λ n. step.Look (Some n)) c.in-Some-seat.ensures.0 (c.look.ensures.steps w phase tie))

pub returns-in-None-clause-steps : goal.returns-in-None-clause-steps
returns-in-None-clause-steps g c = λ w phase tie.
    let seat = c.in-Some.seat in
    asked_as (ap step.Look c.in-Some.is) (misplaced_steps tie (step.Look (Some seat)) c.misplaced.ensures (of_none tie (IsLook w phase (Some seat) wrong w) c.in-None.ensures))

pub returns-in_default-clause-steps : goal.returns-in_default-clause-steps
returns-in_default-clause-steps g c = λ w phase tie. asked_as (ap step.Look c.in_default.is) (by_clock tie (c.look_flusher.ensures.steps w phase tie))
