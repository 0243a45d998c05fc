use Rattle.std.proofs.Common.{ap, Err}
use Rattle.play_core.specs.StepLine.{asked_of}
use Rattle.play_core.proofs.Scripts.{HasAsked_start, HasAsked_next, HasAsked_all, first_bad_step}
use Rattle.play_core.proofs.script.read_into.Goals as goal

pub lines-init : goal.lines-init
lines-init g c = rw c.requires (HasAsked_start g.R.TextRecord.spelling c.args.input.now)

pub returns-in-Err-Bad-clause-refused : goal.returns-in-Err-Bad-clause-refused
returns-in-Err-Bad-clause-refused g c =
    let bad = c.in-Err-Bad.ensures.bad (ap Err c.in-Err-Bad.field-0-is) in
    first_bad_step g.R.TextRecord.spelling _ _ _ _ _ _ c.in-Some.ensures bad c.lines.invariant

pub lines-preserved : goal.lines-preserved
lines-preserved g c =
    HasAsked_next g.R.TextRecord.spelling _ _ _ (asked_of c.in-Ok.asked) c.lines.lines _ _ _ c.in-Some.ensures c.in-Ok.ensures.read c.in_ok-push.ensures c.lines.invariant

pub returns-clause-read : goal.returns-clause-read
returns-clause-read g c = HasAsked_all g.R.TextRecord.spelling _ _ _ _ c.in_default.ensures c.lines.invariant
