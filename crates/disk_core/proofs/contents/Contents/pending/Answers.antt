use Rattle.disk_core.proofs.PendingLemmas.{pending_settled}
use Rattle.std.proofs.Common.{arith}
use Rattle.disk_core.proofs.contents.Contents.pending.Goals as goal

pub returns-then-is_empty : goal.returns-then-is_empty
returns-then-is_empty c = grind (arith, pending_settled)
