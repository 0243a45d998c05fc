use Rattle.std.proofs.Common.{◌∙◌, arith}
use Rattle.text_core.proofs.Small.{IfNone_from}
use Rattle.text_core.proofs.SignedLemmas.{no_signed_minus, no_signed_below, no_signed_above}
use Rattle.text_core.proofs.signed_number.I64TextRecord.parse.Goals as goal

pub returns-in_err-parse-in-Some-clause-refused : goal.returns-in_err-parse-in-Some-clause-refused
returns-in_err-parse-in-Some-clause-refused c = IfNone_from c.from_residual.result _ (λ z fits is.
    no_signed_minus c.in-Some.digits.now (λ n some small. c.in_err-parse-in-Some.ensures.refused n (omega (arith, small))) z fits (is ∙ c.in-Some.ensures))

pub returns-in_ok-parse-in-Some-clause-refused : goal.returns-in_ok-parse-in-Some-clause-refused
returns-in_ok-parse-in-Some-clause-refused c =
    no_signed_below c.args.text.now c.in-Some.digits.now c.in_ok-parse-in-Some.field-0 c.number_below_zero.result _ c.in-Some.ensures
    c.in_ok-parse-in-Some.ensures.read.0 c.in_ok-parse-in-Some.ensures.read.1 c.number_below_zero.ensures

pub returns-in_ok-parse-in-None-clause-refused : goal.returns-in_ok-parse-in-None-clause-refused
returns-in_ok-parse-in-None-clause-refused c =
    rw c.ok.ensures.value
    (no_signed_above c.args.text.now c.in_ok-parse-in-None.field-0 c.try_from.result c.in-None.ensures c.in_ok-parse-in-None.ensures.read.0 c.in_ok-parse-in-None.ensures.read.1 c.try_from.ensures)
