use Rattle.std.proofs.Common.{◌≡◌, length, ℕ, List, [], subst, arith, Some, None}
use Rattle.std.proofs.lemmas.List.{append-nil}
use Rattle.segment_core.specs.declared.scanner.ScanStage.TheVariants as stages
use Rattle.segment_core.specs.Fault.{IsRefused}
use Rattle.segment_core.proofs.Refusals.{refused_by_header}
use Rattle.segment_core.proofs.Fed.{fed_at, front_fault, too_short, cut_fault}
use Rattle.segment_core.proofs.scanner.Scanner.check_end.Goals as goal

pub shared_ref_as_front-check_header : goal.shared_ref_as_front-check_header
shared_ref_as_front-check_header g c =
    let front = fed_at g.R.Record.form c.requires.0 c.args.self.now stages.Header c.in-Header.is c.requires.1 in
    let short = front.short in
    let filled = front.filled in
    omega arith

pub returns-in-Ok-clause-answer : goal.returns-in-Ok-clause-answer
returns-in-Ok-clause-answer g c = λ image fed. (
    let front = fed_at g.R.Record.form image c.args.self.now stages.Header c.in-Header.is fed in
    absurd (too_short g.R.Record.form.width image front.short (front_fault g.R.Record.form image c.args.self.now c.width_of.result None front c.width_of.ensures.is c.in-Ok.ensures.0)))

pub returns-in-Err-clause-answer : goal.returns-in-Err-clause-answer
returns-in-Err-clause-answer g c = λ image fed. (
    let front = fed_at g.R.Record.form image c.args.self.now stages.Header c.in-Header.is fed in
    refused_by_header g.R.Record.form image c.in-Err.fault (front_fault g.R.Record.form image c.args.self.now c.width_of.result (Some c.in-Err.fault) front c.width_of.ensures.is c.in-Err.ensures))

pub returns-in-Open-clause-answer : goal.returns-in-Open-clause-answer
returns-in-Open-clause-answer g c = λ image fed. (
    let scanner = c.args.self.now in
    let on = fed_at g.R.Record.form image scanner stages.Open c.in-Open.is fed in
    let ok = c.args.self.now.pending.ok in
    let is = c.len.ensures in
    let size : length scanner.pending.items ≡ c.len.result = omega arith in
    let fault = c.fault.ensures scanner.walk.shape scanner.pending.items size on.short in
    cut_fault g.R.Record.form image scanner.pending.items scanner.walk c.fault.result on.sound on.stands fault.0 fault.1)

pub returns-in-Closed-clause-answer : goal.returns-in-Closed-clause-answer
returns-in-Closed-clause-answer g c = λ image fed. fed_at g.R.Record.form image c.args.self.now stages.Closed c.in-Closed.is fed

pub returns-in-Refused-clause-answer : goal.returns-in-Refused-clause-answer
returns-in-Refused-clause-answer g c = λ image fed. (
    let refused = fed_at g.R.Record.form image c.args.self.now (stages.Refused c.in-Refused.fault) c.in-Refused.is fed in
    subst (λ (bs : List ℕ). IsRefused g.R.Record.form bs c.in-Refused.fault) (append-nil image) (refused []))
