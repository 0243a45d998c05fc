use Rattle.std.proofs.Common.{◌+◌, ◌<◌, List, drop, sym, ap, ◌∙◌, arith}
use Rattle.std.specs.Prelude.{nat_le, ◌&&◌}
use Rattle.std.proofs.lemmas.Bool.{le-leb, lt-leb}
use Rattle.std.proofs.lemmas.List.{drop_all}
use Rattle.segment_core.specs.Frame.{Run}
use Rattle.segment_core.specs.Tally.{are_inside}
use Rattle.segment_core.specs.Reading.{runs_of}
use Rattle.segment_core.proofs.Numbers.{first_false}
use Rattle.segment_core.proofs.RunRows.{drop_got}
use Rattle.segment_core.proofs.tally.runs_inside.Goals as goal
use Rattle.segment_core.proofs.tally.runs_inside.Goals.{then-count-size-via-then-count-size, then-count-size-via-else-count-size+then-start-size}

pub returns-then-count-size : goal.returns-then-count-size
returns-then-count-size c =
    let runs : List Run = runs_of c.args.frame.now.frame in
    let run : Run = record { start = c.run-start.result.0; count = c.run-start.result.1 } in
    let left = drop_got runs c.loop-k.k run c.run-start.ensures.run in
    let past : c.args.size < run.start + run.count = elim c.then-count-size.branch [
      | then-count-size-via-then-count-size w ↦ let t = w.if-count-size.true in omega arith
      | then-count-size-via-else-count-size+then-start-size w ↦ let f = w.if-count-size.false in let t = w.if-start-size.true in omega arith
    ] in
    sym
    (c.loop-k.invariant
    ∙ ap (are_inside c.args.size) left
    ∙ first_false (nat_le (run.start + run.count) c.args.size) (are_inside c.args.size (drop (c.loop-k.k + 1) runs)) (lt-leb (run.start + run.count) c.args.size past))

pub loop-k-preserved : goal.loop-k-preserved
loop-k-preserved c =
    let runs : List Run = runs_of c.args.frame.now.frame in
    let run : Run = record { start = c.run-start.result.0; count = c.run-start.result.1 } in
    let left = drop_got runs c.loop-k.k run c.run-start.ensures.run in
    let few = c.if-count-size.false in
    let below = c.if-start-size.false in
    c.loop-k.invariant ∙ ap (are_inside c.args.size) left ∙ ap (λ b. b && are_inside c.args.size (drop (c.loop-k.k + 1) runs)) (le-leb (run.start + run.count) c.args.size (omega arith))

pub returns : goal.returns
returns c =
    let runs : List Run = runs_of c.args.frame.now.frame in
    let end = c.loop-k-test.false in
    let n = c.runs-k-end.ensures in
    sym (c.loop-k.invariant ∙ ap (are_inside c.args.size) (drop_all c.loop-k.k runs (omega arith)))
