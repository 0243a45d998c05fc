use Rattle.std.proofs.lemmas.Grind.{common_steps}
use Rattle.std.proofs.Common.{◌^◌, length, sym, subst, ◌∙◌, arith}
use Rattle.segment_core.specs.Written.{joined}
use Rattle.pen_core.specs.HomeRuns.{AreHomeRuns}
use Rattle.pen_core.proofs.HomeRunSteps.{ascending-to}
use Rattle.pen_core.proofs.WritesFor.{writes_for-take}
use Rattle.pen_core.proofs.fold.Fold.plan.Goals as goal

pub home_writes-requires-clause-ascend : goal.home_writes-requires-clause-ascend
home_writes-requires-clause-ascend g c κs within =
    rw c.deref-2.ensures.value
    (ascending-to 0 c.args.size (length (joined (g.G.GrowthList.growths c.args.pieces.now))) c.in_ok-runs.runs.items
    c.in_ok-runs.ensures.runs_are.ascend c.requires.all)

pub home_writes-requires-clause-few : goal.home_writes-requires-clause-few
home_writes-requires-clause-few g c κs within =
    rw c.deref-2.ensures.value (ascending-to 0 c.args.size (2 ^ 32) c.in_ok-runs.runs.items c.in_ok-runs.ensures.runs_are.ascend c.requires.few)

pub returns-clause-planned : goal.returns-clause-planned
returns-clause-planned g c =
    let records = joined (g.G.GrowthList.growths c.args.pieces.now) in
    let cover = c.in_ok-covered.covered.items in
    let at = subst (λ cs. AreHomeRuns c.args.width c.args.size c.args.homes.now cs c.in_ok-runs.runs.items) c.deref.ensures.value c.in_ok-runs.ensures in
    record {
      cover = cover;
      runs = c.in_ok-runs.runs.items;
      covered = c.in_ok-covered.ensures;
      at_home = at;
      writes_are =
          rw c.deref-2.ensures.value at c.in_ok-home_writes.ensures.writes
          ∙ sym (writes_for-take g.R.Record.form records c.args.size 0 c.in_ok-runs.runs.items at.runs_are.ascend);
      inside = c.in_ok-home_writes.ensures.inside;
    }
