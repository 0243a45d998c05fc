use Rattle.std.proofs.Common.{refl}
use Rattle.filing_core.proofs.Filings.{over_file}
use Rattle.filing_core.proofs.filing.Filing.clear.Goals as goal

pub returns : goal.returns
returns g c = over_file _ (g.W.Write.contents c.args.writer.now) (g.W.Write.contents c.clear-disk.new.writer) _ c.in_ok-disk.field-0.disk c.in_ok-disk.field-0.disk c.clear-disk.result.0 c.clear-disk.result.0 c.clear-disk.result.1
    refl c.in_ok-disk.ensures.opened refl (c.clear-disk.ensures.cleared, c.clear-disk.ensures.written, c.clear-disk.ensures.writes) c.status_on.ensures
