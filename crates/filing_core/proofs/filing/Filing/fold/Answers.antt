use Rattle.files_core.specs.Watched.{below}
use Rattle.filing_core.proofs.Filings.{over_file}
use Rattle.filing_core.proofs.Watching.{folds_below, none_live_below}
use Rattle.filing_core.proofs.filing.Filing.fold.Goals as goal

pub returns : goal.returns
returns g c = over_file _ (g.W.Write.contents c.args.writer.now) (g.W.Write.contents c.fold-disk.new.writer) _ c.in_ok-disk.field-0.disk (below c.watched-disk.result) (below c.fold-disk.result.0) c.into_disk.result c.fold-disk.result.1
    c.watched-disk.ensures c.in_ok-disk.ensures.opened c.into_disk.ensures (folds_below _ _ _ _ c.fold-disk.ensures.stays, none_live_below _ _ c.fold-disk.ensures.none_live, c.fold-disk.ensures.faults, c.fold-disk.ensures.writes) c.status_on.ensures
