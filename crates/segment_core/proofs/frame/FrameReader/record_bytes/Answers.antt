use Rattle.std.proofs.Common.{arith}
use Rattle.std.proofs.lemmas.Grind.{common_steps}
use Rattle.segment_core.proofs.frame.FrameReader.record_bytes.Goals as goal

pub overflow_mul-at : goal.overflow_mul-at
overflow_mul-at c = grind (arith, common_steps)
