use Rattle.filing_core.proofs.Copies.{had_records}
use Rattle.filing_core.proofs.copying.read_beside.Goals as goal

pub returns-clause-read : goal.returns-clause-read
returns-clause-read g c = had_records g.R.Record.form _ _ _ _ _ c.in-Ok.found.0.items c.in-Ok.found.1 c.shape.result c.shape.ensures c.in-Ok.ensures.read
