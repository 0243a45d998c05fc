use Rattle.std.proofs.Common.{arith}
use Rattle.files_core.proofs.folding.count_live.Goals as goal

pub returns-in-Ok-clause-found : goal.returns-in-Ok-clause-found
returns-in-Ok-clause-found g c = (c.in-Ok.scanned, c.in-Ok.ensures.found, c.live_changes.ensures)

pub returns-in-Ok-clause-faults : goal.returns-in-Ok-clause-faults
returns-in-Ok-clause-faults g c = c.in-Ok.ensures.faults

pub returns-in-Err-clause-faults : goal.returns-in-Err-clause-faults
returns-in-Err-clause-faults g c = c.in-Err.ensures.faults

pub scan_disk-requires-clause-some : goal.scan_disk-requires-clause-some
scan_disk-requires-clause-some g c κs within = omega arith
