use Rattle.std.proofs.Common.{◌≡◌, ◌≢◌, ap, codes, rules, Err}
use Rattle.drive_core.specs.Given.{pieces_of}
use Rattle.text_core.proofs.Small.{err_is}
use Rattle.play_core.proofs.LineRuns.{HasRuns_first, HasRuns_next, no_bar, no_run}
use Rattle.play_core.proofs.line_runs.read_into.Goals as goal

pub loop-word-init : goal.loop-word-init
loop-word-init g c =
    let laws = g.met.R.TextRecord g.world.𝓛 g.world.𝓜 g.world.𝓡 ((λ s x. x), (λ x. x), (λ x. x), λ x. x) in
    HasRuns_first g.R.TextRecord.spelling _ _ _ _ laws.is_word laws.one_value (ap pieces_of c.requires) c.in_ok-rest.ensures.read

pub returns-in_err-rest-2-clause-bad : goal.returns-in_err-rest-2-clause-bad
returns-in_err-rest-2-clause-bad g c = λ bad runs so is.
    let fault = err_is c.from_residual-in_err-rest-2.result _ c.in_err-rest-2.field-0.0 c.from_residual-in_err-rest-2.ensures.1 bad in
    no_run g.R.TextRecord.spelling _ _ runs c.in-Some.word.now _ _ c.in-Some.ensures.found (c.in_err-rest-2.ensures.bad (ap Err fault)) c.loop-word.invariant so is

pub loop-word-preserved : goal.loop-word-preserved
loop-word-preserved g c =
    let laws = g.met.R.TextRecord g.world.𝓛 g.world.𝓜 g.world.𝓡 ((λ s x. x), (λ x. x), (λ x. x), λ x. x) in
    let bar : c.in-Some.word.now ≡ codes "|" = search rules in
    HasRuns_next g.R.TextRecord.spelling _ _ _ c.in-Some.word.now _ _ _ laws.is_word laws.one_value c.in-Some.ensures.found bar c.in_ok-rest-2.ensures.read c.loop-word.invariant

pub returns-then-ne-clause-bad : goal.returns-then-ne-clause-bad
returns-then-ne-clause-bad g c = λ bad runs so is.
    let other : c.in-Some.word.now ≢ codes "|" = search rules in
    no_bar g.R.TextRecord.spelling _ _ runs c.in-Some.word.now _ _ c.in-Some.ensures.found other c.loop-word.invariant so is
