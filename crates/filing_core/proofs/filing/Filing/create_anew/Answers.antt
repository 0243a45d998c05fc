use Rattle.std.proofs.Common.{refl}
use Rattle.filing_core.proofs.Filings.{over_file}
use Rattle.filing_core.proofs.filing.Filing.create_anew.Goals as goal

pub returns : goal.returns
returns g c = λ opened. over_file _ (g.W.Write.contents c.args.writer.now) (g.W.Write.contents c.create-disk.new.writer) _ c.args.disk c.args.disk c.create-disk.result.0 c.create-disk.result.0 c.create-disk.result.1
    refl opened refl (c.args.disk, refl, c.create-disk.ensures.created, c.create-disk.ensures.writes) c.status_on.ensures
