use Rattle.std.proofs.Common.{arith, ◌-◌, ◌%◌, ◌^◌, ℕ, refl, sym, ap, subst, ◌∙◌, map}
use Rattle.disk_core.specs.Moments.{clock}
use Rattle.drive_core.specs.Asked.{step_of, answer_of}
use Rattle.drive_core.specs.Counted.{below}
use Rattle.drive_core.specs.Phases.{disk_in}
use Rattle.drive_core.specs.Ties.{disk_of}
use Rattle.drive_core.specs.VaultTies.{calls_between}
use Rattle.drive_core.specs.World.{start}
use Rattle.drive_core.proofs.Seats.{lent_at}
use Rattle.drive_core.proofs.LoopRuns.{run_none, run_more, run_pushed, asked_more, told_more, clock_goes, later, all_asked}
use Rattle.drive_core.proofs.WholeRun.{end_run}
use Rattle.drive_core.proofs.driving.drive_counted.Goals as goal

pub loop-k-init : goal.loop-k-init
loop-k-init g c =
    let d = g.D.Disk in
    let same = ap (disk_of d.states d.faults) (sym c.new-counted.ensures.below) in
    let from = start (disk_of d.states d.faults c.args.disk) in
    let none = run_none g.R.Record.form _ _ from (record { strayed_is = refl; disk_is = same; goes_on = λ none. record { phase_is = refl; calm = refl; disk_is = same } }) in (
      (c.in-Ok.ensures.len, c.in-Ok-with_capacity.ensures.len, c.in-Ok.ensures.capacity, c.in-Ok-with_capacity.ensures.capacity),
      (λ kept. subst d.keeps c.new-counted.ensures.below kept),
      run_pushed g.R.Record.form _ _ from _ _ _ _ _ _ refl (ap (map answer_of) c.in-Ok.ensures.items) c.in-Ok-with_capacity.ensures.items none,
    )

pub loop-k-preserved : goal.loop-k-preserved
loop-k-preserved g c =
    let d = g.D.Disk in
    let form = g.R.Record.form in
    let old = c.loop-k.driver in
    let new = c.step-next.result.0 in
    let from = start (disk_of d.states d.faults c.args.disk) in
    let asked = c.index-steps-k.result in
    let answered = answer_of c.step-next.result.1 in
    let n : ℕ = calls_between (d.states (below (disk_in old.phase))) (d.states (below (disk_in new.phase))) in
    let at = lent_at c.args.steps.now c.loop-k.k asked c.loop-k-test.true c.index-steps-k.is in (
      (
        let e = c.push_reserved-in-loop-k.ensures.len in let i = c.loop-k.invariant.0.0 in omega (arith, e, i),
        let e = c.push_reserved.ensures.len in let i = c.loop-k.invariant.0.1 in omega (arith, e, i),
        let e = c.push_reserved-in-loop-k.ensures.capacity in let i = c.loop-k.invariant.0.2 in omega (arith, e, i),
        let e = c.push_reserved.ensures.capacity in let i = c.loop-k.invariant.0.3 in omega (arith, e, i),
      ),
      (λ kept. c.loop-k.invariant.1 (c.step-next.ensures.model kept)),
      run_pushed form _ _ from _ _ _ _ _ _ (asked_more c.args.steps.now c.loop-k.k asked at)
          (told_more c.loop-k.answers.items c.push_reserved-in-loop-k.new.self.items c.step-next.result.1 c.push_reserved-in-loop-k.ensures.items) c.push_reserved.ensures.items
          (run_more form _ _ c.step-next.ensures.model _ _ from _ _ _ (step_of asked) answered n c.between.result c.loop-k.invariant.2 (λ w₁ tied. c.step-next.ensures.steps w₁ tied)
          (λ w₁ tied.
          let steps = c.step-next.ensures.steps w₁ tied in
          let goes = clock_goes tied steps in
          c.between.ensures (clock (d.states (below (disk_in old.phase))) - g.B.Began.moment) n c.calls-before.ensures.1
          (c.calls-after.ensures.1 ∙ ap (λ x. x % 2 ^ 64) (later g.B.Began.moment _ _ n c.calls-before.ensures.0 goes)) steps.few)),
    )

pub returns-clause-driven : goal.returns-clause-driven
returns-clause-driven g c =
    let d = g.D.Disk in
    let is = c.into_inner-disk.ensures ∙ ap below c.into_disk.ensures in
    end_run g.R.Record.form d.states d.faults d.keeps c.args.disk (below (disk_in c.loop-k.driver.phase)) c.into_inner-disk.result is _ _ _ _ _
    (sym (all_asked c.args.steps.now c.loop-k.k c.loop-k-test.false)) c.loop-k.invariant.2 (λ w tied. tied.disk_is)
