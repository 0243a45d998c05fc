use Rattle.std.proofs.Common.{length, refl, ap, arith}
use Rattle.files_core.proofs.FramedScan.{same_measures}
use Rattle.files_core.proofs.checking.measure_records.Goals as goal

pub returns-in-Ok-clause-measured : goal.returns-in-Ok-clause-measured
returns-in-Ok-clause-measured g c = record {
  scanned = c.in-Ok.scanned;
  scan = c.in-Ok.ensures.found;
  is = same_measures _ _ _ _ _ _ _ _ _ _ refl refl (ap length c.as_slice.ensures.value) refl c.live_changes.ensures;
}

pub scan_disk-requires-clause-some : goal.scan_disk-requires-clause-some
scan_disk-requires-clause-some g c κs within = omega arith
