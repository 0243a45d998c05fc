use Rattle.std.proofs.Common.{sym, ap, ◌∙◌}
use Rattle.drive_core.specs.Asked.{step_of}
use Rattle.drive_core.specs.Step as step
use Rattle.drive_core.specs.Given.{pieces_of}
use Rattle.drive_core.proofs.Steps.{asked_as}
use Rattle.drive_core.proofs.phase.command.Goals as goal

pub returns-in-Fold-clause-steps : goal.returns-in-Fold-clause-steps
returns-in-Fold-clause-steps g c = λ w tie. asked_as (ap step_of c.in-Fold.is) (c.fold.ensures.steps w tie)

pub returns-in-Log-clause-steps : goal.returns-in-Log-clause-steps
returns-in-Log-clause-steps g c = λ w tie. asked_as (ap step_of c.in-Log.is) (c.tick.ensures.steps w tie)

pub returns-in-Home-clause-steps : goal.returns-in-Home-clause-steps
returns-in-Home-clause-steps g c = λ w tie. asked_as (ap step_of c.in-Home.is) (c.tick-in-Home.ensures.steps w tie)

pub returns-in-Clear-clause-steps : goal.returns-in-Clear-clause-steps
returns-in-Clear-clause-steps g c = λ w tie. asked_as (ap step_of c.in-Clear.is) (c.clear.ensures.steps w tie)

pub returns-in-List-clause-steps : goal.returns-in-List-clause-steps
returns-in-List-clause-steps g c = λ w tie. asked_as (ap step_of c.in-List.is) (c.list.ensures.steps w tie)

pub returns-in-Resize-clause-steps : goal.returns-in-Resize-clause-steps
returns-in-Resize-clause-steps g c = λ w tie. asked_as (ap step_of c.in-Resize.is) (c.resize.ensures.steps w tie)

pub returns-in-Change-clause-steps : goal.returns-in-Change-clause-steps
returns-in-Change-clause-steps g c = λ w tie. asked_as (ap step_of c.in-Change.is ∙ ap (step.Change c.in-Change.start) (sym c.as_slice.ensures.value)) (c.change.ensures.steps w tie)

pub returns-in-Changes-clause-steps : goal.returns-in-Changes-clause-steps
returns-in-Changes-clause-steps g c = λ w tie.
    asked_as (ap step_of c.in-Changes.is ∙ ap (λ rs. step.Changes (pieces_of rs)) (sym c.as_slice-in-Changes.ensures.value)) (c.change_runs.ensures.steps w tie)
