use Rattle.drive_core.proofs.GrowthEvents.{asked_steps}
use Rattle.drive_core.proofs.growth.answer.Goals as goal

pub returns-in-Take-clause-steps : goal.returns-in-Take-clause-steps
returns-in-Take-clause-steps g c = λ w phase tie. asked_steps tie c.in-Take.is (c.take.ensures.steps w phase tie)

pub returns-in-Raise-clause-steps : goal.returns-in-Raise-clause-steps
returns-in-Raise-clause-steps g c = λ w phase tie. asked_steps tie c.in-Raise.is (c.raise.ensures.steps w phase tie)

pub returns-in-Close-clause-steps : goal.returns-in-Close-clause-steps
returns-in-Close-clause-steps g c = λ w phase tie. asked_steps tie c.in-Close.is (c.close.ensures.steps w phase tie)

pub returns-in-Fold-clause-steps : goal.returns-in-Fold-clause-steps
returns-in-Fold-clause-steps g c = λ w phase tie. asked_steps tie c.in-Fold.is (c.fold.ensures.steps w phase tie)

pub returns-in-Log-clause-steps : goal.returns-in-Log-clause-steps
returns-in-Log-clause-steps g c = λ w phase tie. asked_steps tie c.in-Log.is (c.tick.ensures.steps w phase tie)

pub returns-in-Home-clause-steps : goal.returns-in-Home-clause-steps
returns-in-Home-clause-steps g c = λ w phase tie. asked_steps tie c.in-Home.is (c.tick-in-Home.ensures.steps w phase tie)

pub returns-in-Put-clause-steps : goal.returns-in-Put-clause-steps
returns-in-Put-clause-steps g c = λ w phase tie. asked_steps tie c.in-Put.is (c.put.ensures.steps w phase tie)

pub returns-in-Look-clause-steps : goal.returns-in-Look-clause-steps
returns-in-Look-clause-steps g c = λ w phase tie. asked_steps tie c.in-Look.is (c.look.ensures.steps w phase tie)

pub returns-in-View-clause-steps : goal.returns-in-View-clause-steps
returns-in-View-clause-steps g c = λ w phase tie. asked_steps tie c.in-View.is (c.view.ensures.steps w phase tie)

pub returns-in-Settled-clause-steps : goal.returns-in-Settled-clause-steps
returns-in-Settled-clause-steps g c = λ w phase tie. asked_steps tie c.in-Settled.is (c.settled.ensures.steps w phase tie)
