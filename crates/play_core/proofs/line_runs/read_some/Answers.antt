use Rattle.std.proofs.Common.{◌≡◌, ◌++◌, length, map, rules, sym, ap, ◌∙◌, subst}
use Rattle.play_core.specs.LineWords.{words_left, StartsWithNone}
use Rattle.text_core.proofs.Small.{nil_from_length}
use Rattle.play_core.proofs.LineRuns.{no_record_behind}
use Rattle.play_core.proofs.line_runs.read_some.Goals as goal

pub returns-then-is_empty-clause-bad : goal.returns-then-is_empty-clause-bad
returns-then-is_empty-clause-bad g c = λ bad run tail so is.
    let len : length c.in_ok-records.records.items ≡ 0 = search rules in
    let none = nil_from_length c.in_ok-records.records.items len in
    let same : words_left c.in-Some.behind ≡ words_left c.in_ok-records.rest =
    c.in_ok-records.ensures.read.1 ∙ ap (λ rs. map g.R.TextRecord.spelling.text_of rs ++ words_left c.in_ok-records.rest) none in
    no_record_behind g.R.TextRecord.spelling _ _ tail c.in-Some.number run c.in-Some.ensures.found.1 (subst (StartsWithNone g.R.TextRecord.spelling) (sym same) c.in_ok-records.ensures.all) so is
