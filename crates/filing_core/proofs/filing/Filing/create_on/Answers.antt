use Rattle.std.proofs.Common.{inl, refl}
use Rattle.text_core.proofs.Written.{keeps_same}
use Rattle.filing_core.proofs.Filings.{over_file}
use Rattle.filing_core.proofs.filing.Filing.create_on.Goals as goal

pub returns-in-Ok : goal.returns-in-Ok
returns-in-Ok g c = λ opened. over_file _ (g.W.Write.contents c.args.writer.now) (g.W.Write.contents c.create-disk.new.writer) _ c.args.disk c.args.disk c.create-disk.result.0 c.create-disk.result.0 c.create-disk.result.1
    refl opened refl (c.in-Ok.disk, c.in-Ok.ensures.vacant, c.create-disk.ensures.created, c.create-disk.ensures.writes) c.status_on.ensures

pub returns-in-Err : goal.returns-in-Err
returns-in-Err g c = λ opened. inl (record {
  fault = c.in-Err.fault;
  why = (c.args.disk, c.in-Err._asked, opened, c.in-Err.ensures.taken);
  told = refl;
  quiet = keeps_same (g.W.Write.contents c.args.writer.now);
})
