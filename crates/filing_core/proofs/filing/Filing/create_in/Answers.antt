use Rattle.std.proofs.Common.{sym, subst, true, Result}
use Rattle.text_core.specs.declared.status.Status.{Status}
use Rattle.sentences.specs.declared.complaint.Complaint.{Complaint}
use Rattle.filing_core.specs.Commands.{IsCreateRun}
use Rattle.filing_core.proofs.filing.Filing.create_in.Goals as goal

pub returns : goal.returns
returns g c = subst (λ (filed : Result Status Complaint). IsCreateRun g.R.Record.form (g.W.Write.contents c.args.writer.now) (g.W.Write.contents c.create_anew-filed.new.writer) filed c.args.format true)
    (sym c.leave.ensures) (c.create_anew-filed.ensures c.in_ok-disk.ensures.opened)
