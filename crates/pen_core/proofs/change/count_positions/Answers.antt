use Rattle.std.proofs.lemmas.Grind.{common_steps}
use Rattle.std.proofs.Common.{◌+◌, get_or, drop, ap, arith}
use Rattle.segment_core.specs.Frame.{records_of_runs}
use Rattle.segment_core.proofs.FrameParts.{records_of_runs-cons}
use Rattle.segment_core.specs.Runs.{runs_given}
use Rattle.pen_core.proofs.RunsGiven.{runs_left, positions_within}
use Rattle.pen_core.proofs.change.count_positions.Goals as goal

pub overflow_add-total : goal.overflow_add-total
overflow_add-total c =
    let runs = c.args.runs.now in
    let k = c.loop-k.k in
    let within = positions_within 0 c.args.size (runs_given runs) (omega arith) c.requires.ascending c.requires.inside in
    let left = ap (λ rs. records_of_runs (runs_given rs)) (runs_left runs k (0, 0) c.loop-k-test.true) in
    let run = get_or runs k (0, 0) in
    let parts = records_of_runs-cons (record { start = run.0; count = run.1 }) (runs_given (drop (k + 1) runs)) in
    let so_far = c.loop-k.invariant.so_far in
    let fits = c.ranges.size.fits in
    omega arith

pub returns-clause-few : goal.returns-clause-few
returns-clause-few c =
    let within = positions_within 0 c.args.size (runs_given c.args.runs.now) (omega arith) c.requires.ascending c.requires.inside in
    let so_far = c.loop-k.invariant.so_far in
    omega arith

pub loop-k-preserved : goal.loop-k-preserved
loop-k-preserved c = grind (arith, common_steps)
