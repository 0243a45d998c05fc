use Rattle.std.proofs.Common.{length, ap, arith}
use Rattle.files_core.proofs.sounding.count_front.Goals as goal

pub returns-in-Ok-clause-found : goal.returns-in-Ok-clause-found
returns-in-Ok-clause-found g c = λ model. (c.in-Ok.scanned, c.in-Ok.ensures.found model, ap length c.as_slice.ensures.value)

pub returns-in-Ok-clause-faults : goal.returns-in-Ok-clause-faults
returns-in-Ok-clause-faults g c = c.in-Ok.ensures.faults

pub returns-in-Err-clause-faults : goal.returns-in-Err-clause-faults
returns-in-Err-clause-faults g c = c.in-Err.ensures.faults

pub scan_front-requires-clause-some : goal.scan_front-requires-clause-some
scan_front-requires-clause-some g c κs within = omega arith
