use Rattle.std.proofs.Common.{arith}
use Rattle.std.proofs.lemmas.Grind.{common_steps}
use Rattle.record_core.proofs.records.append_records.Goals as goal

pub returns-clause-bytes : goal.returns-clause-bytes
returns-clause-bytes g c = grind (arith, common_steps)

pub returns-clause-cells : goal.returns-clause-cells
returns-clause-cells g c = grind (arith, common_steps)

pub put_records-requires-after_bounds : goal.put_records-requires-after_bounds
put_records-requires-after_bounds g c κs within = grind (arith, common_steps)
