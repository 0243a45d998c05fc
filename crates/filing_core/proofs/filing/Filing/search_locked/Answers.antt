use Rattle.std.proofs.Common.{rules, sym, subst}
use Rattle.files_core.specs.Watched.{below}
use Rattle.filing_core.specs.Complaints.{Disk, IsComplaintOf, IsJustOpened, IsStatusOf}
use Rattle.filing_core.proofs.Letting.{writes_through}
use Rattle.filing_core.proofs.Watching.{reads_below}
use Rattle.filing_core.proofs.filing.Filing.search_locked.Goals as goal

pub returns : goal.returns
returns g c = λ opened. record {
  disk = below c.watched-disk.result;
  left = below c.search-disk.result.0;
  ended = c.search-disk.result.1;
  opened = subst (λ (d : Disk). IsJustOpened d) (sym c.watched-disk.ensures) opened;
  engine = (reads_below _ _ _ _ c.search-disk.ensures.reads, search (rules, writes_through g.W.Write.contents c.args.writer.now c.new-writer.result.inner c.search-disk.new.writer.inner c.new-writer.ensures.now c.new-writer.ensures.same_reference));
  told = subst (λ (d : Disk). IsStatusOf (IsComplaintOf g.R.Record.form d) c.search-disk.result.1 c.status_on.result) c.into_disk.ensures c.status_on.ensures;
}
