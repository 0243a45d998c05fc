use Rattle.std.proofs.Common.{inr}
use Rattle.filing_core.proofs.Filings.{input_shown, told_fault}
use Rattle.filing_core.proofs.filing.Filing.load.Goals as goal

pub returns-clause-run : goal.returns-clause-run
returns-clause-run g c = inr (inr (
  c.load-disk.result.1,
  record {
    disk = c.in_ok-disk.field-0.disk;
    left = c.load-disk.result.0;
    ended = c.load-disk.result.2;
    opened = c.in_ok-disk.ensures.opened;
    engine = (
      c.in_ok-growths.growths.0,
      (c.in_ok-growths.ensures.read, c.in_ok-growths.ensures.within, c.in_ok-growths.ensures.fit),
      c.load-disk.ensures.loaded,
      c.load-disk.ensures.writes,
    );
    told = c.status_of_append.ensures;
  },
))

pub returns-in_err-growths-clause-shown : goal.returns-in_err-growths-clause-shown
returns-in_err-growths-clause-shown g c = input_shown g.R.TextRecord.spelling (g.I.Read.remaining c.args.reader.now) c.read_growth_lines.result c.in_err-growths.field-0.0 c.from_residual.result c.read_growth_lines.new.shown
    c.in_err-growths.was (told_fault c.from_residual.result c.in_err-growths.field-0.0 c.from_residual.ensures.1) c.read_growth_lines.ensures.shown
