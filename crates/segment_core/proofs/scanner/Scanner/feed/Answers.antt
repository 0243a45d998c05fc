use Rattle.std.proofs.Common.{ℕ, List, ◌++◌, length, take, drop, ap, subst, ◌∙◌, append_assoc, arith}
use Rattle.std.proofs.lemmas.List.{length-append, length-drop, length-take-le, take_rest, take-append-drop}
use Rattle.segment_core.specs.Scanner.{IsFed}
use Rattle.segment_core.proofs.scanner.Scanner.feed.Goals as goal

pub feed_rest-requires-clause-fed : goal.feed_rest-requires-clause-fed
feed_rest-requires-clause-fed g c κs within =
    let image : List ℕ = c.requires.0 in
    let piece : List ℕ = c.args.piece.now in
    let used : ℕ = c.begin-used.result in
    let inside = c.begin-used.ensures.used in
    let front = length-append image (take used piece) in
    let part = length-take-le used piece inside in
    let left = ap length (take_rest piece used) ∙ length-drop used piece in
    let small = c.requires.2 in
    (image ++ take used piece, c.begin-used.ensures.fed image c.requires.1, omega arith)

pub returns-clause-fed : goal.returns-clause-fed
returns-clause-fed g c = λ image fed. (
    let form = g.R.Record.form in
    let piece : List ℕ = c.args.piece.now in
    let used : ℕ = c.begin-used.result in
    let front : List ℕ = image ++ take used piece in
    subst (λ (bs : List ℕ). IsFed form bs c.feed_rest.new.self)
    (append_assoc image (take used piece) (drop used piece) ∙ ap (λ (bs : List ℕ). image ++ bs) (take-append-drop used piece))
    (subst (λ (bs : List ℕ). IsFed form (front ++ bs) c.feed_rest.new.self) (take_rest piece used)
    (c.feed_rest.ensures.fed front (c.begin-used.ensures.fed image fed))))
