use Rattle.std.proofs.Common.{◌≡◌, ◌≤◌, length, take, map}
use Rattle.drive_core.specs.World.{start}
use Rattle.drive_core.specs.Asked.{step_of, answer_of}
use Rattle.drive_core.specs.Counted.{below}
use Rattle.drive_core.specs.Driving.{IsDriver, HasRun}
use Rattle.drive_core.specs.Medium.{medium}
use Rattle.drive_core.specs.Phases.{disk_in}
use Rattle.drive_core.specs.Ties.{disk_of}
use Rattle.drive_core.proofs.driving.drive_counted.Given as goal

abbrev pub invariant-loop-k : goal.invariant-loop-k
invariant-loop-k g l =
    let d = g.D.Disk in
    let counted = medium g.R.Record.form (λ c. d.states (below c)) (λ c. d.faults (below c)) (λ c. d.keeps (below c)) in
    ((l.answers.len ≡ l.k) × (l.calls.len ≡ l.k) × (length l.steps ≤ l.answers.cap) × (length l.steps ≤ l.calls.cap))
    × (d.keeps (below (disk_in l.driver.phase)) → d.keeps l.fn.disk)
    × HasRun g.R.Record.form (d.keeps (below (disk_in l.driver.phase))) (λ w'. IsDriver counted w' l.driver.phase l.driver.strayed) (start (disk_of d.states d.faults l.fn.disk))
    (map step_of (take l.k l.steps)) (map answer_of l.answers.items) l.calls.items
