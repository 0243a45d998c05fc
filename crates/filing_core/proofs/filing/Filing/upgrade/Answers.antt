use Rattle.std.proofs.Common.{inl, inr}
use Rattle.text_core.proofs.Written.{keeps_same}
use Rattle.files_core.specs.Texts.{upgraded_line}
use Rattle.filing_core.proofs.Copies.{answered, is_one, told_complaint}
use Rattle.filing_core.proofs.filing.Filing.upgrade.Goals as goal

pub returns-in_err-new : goal.returns-in_err-new
returns-in_err-new g c = inr (
  c.in_ok-own.own,
  c.in_ok-own.records.items,
  c.in_ok-own.ensures.read,
  inr (
    is_one c.in_ok-own.own c.if-eq.ensures,
    inl (record {
      complaint = c.in_err-new.field-0.0;
      why = c.in_err-new.ensures;
      told = told_complaint c.from_residual-in_err-new.result c.in_err-new.field-0.0 c.from_residual-in_err-new.ensures.1;
      quiet = keeps_same (g.W.Write.contents c.args.writer.now);
    }),
  ),
)

pub returns : goal.returns
returns g c = inr (
  c.in_ok-own.own,
  c.in_ok-own.records.items,
  c.in_ok-own.ensures.read,
  inr (
    is_one c.in_ok-own.own c.if-eq.ensures,
    inr (
      c.in_ok-new.new.size,
      c.in_ok-new.ensures,
      answered _ _ (upgraded_line c.in_ok-new.new.size) c.write_upgraded.result c.status_of_answer.result c.status_of_answer.ensures c.write_upgraded.ensures,
    ),
  ),
)
