use Rattle.std.proofs.Common.{◌≡◌, ◌≢◌, ◌++◌, [], true, false, refl, ap, sym, ◌∙◌, Err}
use Rattle.std.proofs.lemmas.List.{append-nil}
use Rattle.play_core.specs.LineWords.{words_left}
use Rattle.play_core.specs.LineRuns.{run_words}
use Rattle.text_core.proofs.Small.{err_is}
use Rattle.play_core.proofs.LineRuns.{more_behind}
use Rattle.play_core.proofs.line_runs.read_run.Goals as goal

pub returns-in_err-number-clause-bad : goal.returns-in_err-number-clause-bad
returns-in_err-number-clause-bad g c = λ bad run so is.
    let fault = err_is c.from_residual.result _ c.in_err-number.field-0.0 c.from_residual.ensures.1 bad in
    c.in_err-number.ensures.bad (ap Err fault) run [] so (is ∙ sym (append-nil (run_words g.R.TextRecord.spelling.text_of run)))

pub returns-then-not-is_ended-clause-bad : goal.returns-then-not-is_ended-clause-bad
returns-then-not-is_ended-clause-bad g c = λ bad run so is.
    let laws = g.met.R.TextRecord g.world.𝓛 g.world.𝓜 g.world.𝓡 ((λ s x. x), (λ x. x), (λ x. x), λ x. x) in
    let read = c.in_ok-number.ensures.read in
    let some : words_left c.in_ok-number.rest ≢ [] = λ none. let ended : false ≡ true = sym c.if-not-is_ended.true ∙ c.is_ended.ensures.1 none in cc ended in
    more_behind g.R.TextRecord.spelling _ _ (c.in_ok-number.number, c.in_ok-number.records.items) run laws.one_value read.1 some read.0 c.in_ok-number.ensures.all so is

pub returns-clause-read : goal.returns-clause-read
returns-clause-read g c =
    let read = c.in_ok-number.ensures.read in
    let words = run_words g.R.TextRecord.spelling.text_of (c.in_ok-number.number, c.in_ok-number.records.items) in
    (read.0, read.1 ∙ ap (λ ws. words ++ ws) (c.if-not-is_ended.ensures.0 refl) ∙ append-nil words)
