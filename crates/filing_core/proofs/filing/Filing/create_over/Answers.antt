use Rattle.std.proofs.Common.{refl}
use Rattle.filing_core.proofs.Filings.{made_ends, over_file}
use Rattle.filing_core.proofs.filing.Filing.create_over.Goals as goal

pub returns : goal.returns
returns g c = over_file _ (g.W.Write.contents c.args.writer.now) (g.W.Write.contents c.tell_made.new.writer) _ c.in-Some.field-0.opened.disk c.in-Some.field-0.opened.disk c.make-disk.result.0 c.make-disk.result.0 c.tell_made.result
    refl c.in-Some.ensures refl (c.in-Some.field-0.opened.disk, refl, made_ends _ _ _ _ c.tell_made.ensures.ends c.make-disk.ensures, c.tell_made.ensures.writes) c.status_on.ensures
