use Rattle.std.proofs.Common.{◌≡◌, ◌≤◌, ◌+◌, ◌++◌, ◌∷◌, [], List, length, map, take, ℕ, sym, ap, ◌∙◌, append_assoc, arith}
use Rattle.std.proofs.lemmas.List.{take_more, take_all}
use Rattle.std.proofs.lemmas.Option.{slice_get_within, get_or_from_slice_get}
use Rattle.segment_core.specs.Frame.{Run}
use Rattle.segment_core.specs.Reading.{runs_of}
use Rattle.segment_core.proofs.FoundChanges.{pair_of, pairs_more}
use Rattle.segment_core.proofs.found.push_runs.Goals as goal

pub loop-k-preserved : goal.loop-k-preserved
loop-k-preserved c =
    let runs : List Run = runs_of c.args.change.now.frame in
    let run : Run = record { start = c.run.result.0; count = c.run.result.1 } in
    let is = c.run.ensures.run in
    let more : take (c.loop-k.k + 1) runs ≡ take c.loop-k.k runs ++ run ∷ []
    = take_more runs c.loop-k.k run (slice_get_within runs c.loop-k.k run is)
    ∙ ap (λ r. take c.loop-k.k runs ++ r ∷ []) (get_or_from_slice_get runs c.loop-k.k run run is) in
    c.in_ok-push.ensures.items
    ∙ ap (λ (ps : List (ℕ × ℕ)). ps ++ c.run.result ∷ []) c.loop-k.invariant
    ∙ append_assoc c.args.runs.now.items (map pair_of (take c.loop-k.k runs)) (c.run.result ∷ [])
    ∙ ap (λ (ps : List (ℕ × ℕ)). c.args.runs.now.items ++ ps) (sym (pairs_more runs c.loop-k.k run more))

pub returns : goal.returns
returns c =
    let runs : List Run = runs_of c.args.change.now.frame in
    let past : length runs ≤ c.loop-k.k = omega (arith, c.runs-k-end.ensures, c.loop-k-test.false) in
    c.loop-k.invariant ∙ ap (λ rs. c.args.runs.now.items ++ map pair_of rs) (take_all c.loop-k.k runs past)
