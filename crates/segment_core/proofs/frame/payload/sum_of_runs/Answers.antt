use Rattle.std.proofs.Common.{◌≡◌, ◌+◌, ◌<◌, true, List, [], ◌∷◌, ◌++◌, take, length, refl, sym, ap, ◌∙◌, arith, ℕ}
use Rattle.std.specs.Prelude.{nat_lt}
use Rattle.std.specs.List.{list_all}
use Rattle.std.proofs.lemmas.Bool.{lt-ltb}
use Rattle.segment_core.specs.Frame.{Run, records_of_runs}
use Rattle.segment_core.specs.Layout.{runs_in}
use Rattle.segment_core.proofs.Numbers.{list_all-append, true_both}
use Rattle.std.proofs.lemmas.List.{take_all}
use Rattle.segment_core.proofs.RunRows.{length-runs_from, not_all, records_of_runs_push}
use Rattle.segment_core.proofs.Written.{take_more}
use Rattle.segment_core.proofs.frame.payload.sum_of_runs.Goals as goal

pub returns-then-count-eq0 : goal.returns-then-count-eq0
returns-then-count-eq0 c = not_all (λ run. nat_lt 0 run.count) (runs_in c.args.shape c.args.payload.now) c.loop-k.k _ c.run_at-count.ensures.run (ap (nat_lt 0) c.if-count-eq0.true)

pub loop-k-preserved : goal.loop-k-preserved
loop-k-preserved c =
    let runs : List Run = runs_in c.args.shape c.args.payload.now in
    let k : ℕ = c.loop-k.k in
    let run : Run = record { start = c.run_at-count.result.0; count = c.run_at-count.result.1 } in
    let more : take (k + 1) runs ≡ take k runs ++ run ∷ [] = take_more runs k run c.run_at-count.ensures.run in
    let positive : 0 < run.count = let apart = c.if-count-eq0.false in omega arith in
    let below = c.run_at-count.ensures.small in
    let so_far = c.loop-k.invariant.small in
    record {
      positive =
          ap (list_all (λ r. nat_lt 0 r.count)) more
          ∙ list_all-append (λ (r : Run). nat_lt 0 r.count) (take k runs) (run ∷ []) c.loop-k.invariant.positive (true_both (nat_lt 0 run.count) true (lt-ltb 0 run.count positive) refl);
      counted = ap (λ x. x + run.count) c.loop-k.invariant.counted ∙ sym (records_of_runs_push (take k runs) run) ∙ ap records_of_runs (sym more);
      small = omega arith;
    }

pub returns : goal.returns
returns c =
    let runs : List Run = runs_in c.args.shape c.args.payload.now in
    let len : length runs ≡ c.args.runs = length-runs_from c.args.shape.format _ _ _ ∙ sym c.requires.counted in
    let end = c.loop-k-test.false in
    let all : take c.loop-k.k runs ≡ runs = take_all c.loop-k.k runs (omega arith) in
    (ap (list_all (λ r. nat_lt 0 r.count)) (sym all) ∙ c.loop-k.invariant.positive, c.loop-k.invariant.counted ∙ ap records_of_runs all)
