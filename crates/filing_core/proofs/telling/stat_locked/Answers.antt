use Rattle.std.proofs.Common.{rules, sym, subst}
use Rattle.files_core.specs.Watched.{below}
use Rattle.filing_core.specs.Complaints.{Disk, IsJustOpened}
use Rattle.filing_core.proofs.Letting.{told_through}
use Rattle.filing_core.proofs.telling.stat_locked.Goals as goal

pub returns : goal.returns
returns g c just = record {
  disk = below c.new-disk.result;
  left = below c.stat-disk.result.0;
  ended = c.stat-disk.result.1;
  opened = subst (λ (d : Disk). IsJustOpened d) (sym c.new-disk.ensures) just;
  engine = search (rules, told_through g.W.Write.contents c.args.writer.now c.new-writer.result.inner c.stat-disk.new.writer.inner c.new-writer.ensures.now c.new-writer.ensures.same_reference);
  only_reads = c.stat-disk.ensures.only_reads;
  faults_are = c.stat-disk.ensures.faults;
  told = c.status_of.ensures;
}
