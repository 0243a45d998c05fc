use Rattle.std.proofs.Common.{◌∙◌, ℕ, ◌++◌, ◌∷◌, [], List, take, get_or, sym, ap, arith}
use Rattle.std.specs.List.{flat_map}
use Rattle.std.proofs.lemmas.List.{append-nil, take_all, take_more}
use Rattle.std.proofs.lemmas.List.Concat.{flat_map-append}
use Rattle.segment_core.specs.Reading.{Seen}
use Rattle.segment_core.specs.Found.{pairs_of}
use Rattle.segment_core.proofs.found.runs_of_all.Goals as goal

pub loop-k-preserved : goal.loop-k-preserved
loop-k-preserved c =
    let changes : List Seen = c.args.changes.now.items in
    let k : ℕ = c.loop-k.k in
    let change : Seen = get_or changes k c.index-change.result.now in
    let before : List (ℕ × ℕ) = flat_map pairs_of (take k changes) in
    c.in_ok-push_runs.ensures ∙ ap (λ (runs : List (ℕ × ℕ)). runs ++ pairs_of c.frame.result) c.loop-k.invariant
    ∙ ap (λ (runs : List (ℕ × ℕ)). before ++ runs) (ap pairs_of (c.frame.ensures ∙ c.index-change.ensures) ∙ sym (append-nil (pairs_of change)))
    ∙ sym (flat_map-append pairs_of (take k changes) (change ∷ []))
    ∙ ap (flat_map pairs_of) (sym (take_more changes k c.index-change.result.now (omega arith)))

pub returns : goal.returns
returns c = c.loop-k.invariant ∙ ap (flat_map pairs_of) (take_all c.loop-k.k c.args.changes.now.items (omega arith))
