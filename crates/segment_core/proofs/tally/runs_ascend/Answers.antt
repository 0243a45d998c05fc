use Rattle.std.proofs.Common.{◌≡◌, ◌+◌, ◌≤◌, ℕ, List, ◌∷◌, drop, sym, ap, ◌∙◌, arith}
use Rattle.std.specs.Prelude.{nat_le, ◌&&◌}
use Rattle.std.proofs.lemmas.Bool.{le-leb, lt-leb}
use Rattle.std.proofs.lemmas.List.{drop_all}
use Rattle.segment_core.specs.Frame.{Run}
use Rattle.segment_core.specs.Tally.{are_ascending}
use Rattle.segment_core.specs.Reading.{runs_of}
use Rattle.segment_core.proofs.Numbers.{first_false}
use Rattle.segment_core.proofs.RunRows.{drop_got}
use Rattle.segment_core.proofs.tally.runs_ascend.Goals as goal

pub returns-then-from-end : goal.returns-then-from-end
returns-then-from-end c =
    let runs : List Run = runs_of c.args.frame.now.frame in
    let run : Run = record { start = c.run-start.result.0; count = c.run-start.result.1 } in
    let left = drop_got runs c.loop-k.k run c.run-start.ensures.run in
    let from = c.from.ensures in
    let below = c.if-from-end.true in
    sym
    (c.loop-k.invariant
    ∙ ap (are_ascending c.loop-k.end) left
    ∙ first_false (nat_le c.loop-k.end run.start) (are_ascending (run.start + run.count) (drop (c.loop-k.k + 1) runs)) (lt-leb c.loop-k.end run.start (omega arith)))

step : (end : ℕ) (run : Run) (runs : List Run) (start count : ℕ)
    → end ≤ run.start → start ≡ run.start → count ≡ run.count
    → are_ascending end (run ∷ runs) ≡ are_ascending (start + count) runs
step end run runs start count le s n =
    ap (λ b. b && are_ascending (run.start + run.count) runs) (le-leb end run.start le)
    ∙ ap (λ k. are_ascending (k + run.count) runs) (sym s)
    ∙ ap (λ k. are_ascending (start + k) runs) (sym n)

pub loop-k-preserved : goal.loop-k-preserved
loop-k-preserved c =
    let runs : List Run = runs_of c.args.frame.now.frame in
    let run : Run = record { start = c.run-start.result.0; count = c.run-start.result.1 } in
    let left = drop_got runs c.loop-k.k run c.run-start.ensures.run in
    let from = c.from.ensures in
    let above = c.if-from-end.false in
    c.loop-k.invariant
    ∙ ap (are_ascending c.loop-k.end) left
    ∙ step c.loop-k.end run (drop (c.loop-k.k + 1) runs) c.from-in-loop-k.result c.from-in-loop-k-2.result (omega arith) c.from-in-loop-k.ensures c.from-in-loop-k-2.ensures

pub returns : goal.returns
returns c =
    let runs : List Run = runs_of c.args.frame.now.frame in
    let end = c.loop-k-test.false in
    let n = c.runs-k-end.ensures in
    sym (c.loop-k.invariant ∙ ap (are_ascending c.loop-k.end) (drop_all c.loop-k.k runs (omega arith)))
