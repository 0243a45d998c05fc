use Rattle.std.proofs.Common.{inr}
use Rattle.filing_core.proofs.filing.Filing.append.Goals as goal

pub returns-clause-run : goal.returns-clause-run
returns-clause-run g c = inr (
  c.append-disk.result.1,
  record {
    disk = c.in_ok-disk.field-0.disk;
    left = c.append-disk.result.0;
    ended = c.append-disk.result.2;
    opened = c.in_ok-disk.ensures.opened;
    engine = (c.append-disk.ensures.stands, c.append-disk.ensures.writes);
    told = c.status_of_append.ensures;
  },
)
